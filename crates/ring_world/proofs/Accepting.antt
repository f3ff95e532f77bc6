-- An event without a fault is a move of its node.
use Rattle.std.proofs.Common.{◌≡◌, ℕ, suc, ◌+◌, ◌<◌, ◌≤◌, List, [], ◌∷◌, Bool, true, false, Option, Some, None, ◌||◌, refl, ap}
use Rattle.std.proofs.Common.{sym, ◌∙◌, subst, arith, ⊎_elim}
use Rattle.std.specs.Prelude.{slice_get, option_map, nat_lt, ◌==◌, ◌⊎◌}
use Rattle.std.specs.List.{AllByRecursion}
use Rattle.std.specs.Option.{option_or}
use Rattle.std.proofs.lemmas.Bool.{eqb-true, eq-eqb}
use Rattle.std.proofs.lemmas.Bool.Decides.{nat_tests}
use Rattle.tiger_base.specs.declared.number.Stamp.{Stamp}
use Rattle.tiger_base.specs.declared.number.LinkNo.{LinkNo}
use Rattle.tiger_base.specs.declared.message.Note.{Note}
use Rattle.tiger_base.specs.Limits.{most_reading}
use Rattle.slot_plan.specs.declared.params.Params.{Params}
use Rattle.slot_plan.specs.Times.{time_of}
use Rattle.node_kit.specs.Links.{links_of, ends_of, leads_to}
use Rattle.node_kit.specs.Steps.{Input, Deed, IsAllowed, stamp_of}
use Rattle.node_kit.specs.Steps.Input.{Take, Tick}
use Rattle.node_kit.proofs.Cutting.{cut-all}
use Rattle.run_facts.specs.Events.{NodeEvent, Past, Dated, after, after_input, after_cut, kept_outs, left_outs, outs_of}
use Rattle.run_facts.specs.Events.{stamp_at, is_tick, is_death, is_take_on, take_on}
use Rattle.run_facts.specs.Events.NodeEvent.{Does, Ends, Dies, Returns}
use Rattle.run_facts.specs.Accounts.{IsOpen, IsLed}
use Rattle.ring_world.specs.declared.event.Act.{Act}
use Rattle.ring_world.specs.declared.event.Act.TheVariants as act
use Rattle.ring_world.specs.declared.event.Last.TheVariants as last
use Rattle.ring_world.specs.declared.event.Event.{Event}
use Rattle.ring_world.specs.Machine.{Machine, Being, Way, node_of, node_event, oldest, receiver, happened, happens, moved}
use Rattle.ring_world.specs.Faults.{fault_of, beat_fault, missed_fault, node_fault, take_fault, late_fault, death_fault}
use Rattle.ring_world.specs.Faults.{least_late, neighbour_fault, IsEventOf}
use Rattle.ring_world.specs.Laws.{AreLawful, IsPlace, MayCome}
use Rattle.ring_world.proofs.Faults.{or-none, beat-none, missed-none, IsFree, node-none, IsOldest, take-none, late-none}
use Rattle.ring_world.proofs.Faults.{death-none}
use Rattle.ring_world.proofs.Neighbours.{MayDie}
use Rattle.ring_world.proofs.Steps.{IsLifeline, MayLive, IsDue}
use Rattle.ring_world.proofs.Moving.{Holds, IsMove}

-- a node's state and outputs after its step, whole or cut off
state-plain : {M S : Type 0} (note : M → Note) (step : S → Input M → Deed M S) (i : Input M) (past : Past S)
    → (after note step (Does i) past).state ≡ (step past.state i).state
unfolding after_input
state-plain note step i past = refl

outs-plain : {M S : Type 0} (step : S → Input M → Deed M S) (i : Input M) (past : Past S)
    → outs_of step (Does i) past ≡ (step past.state i).outs
unfolding kept_outs
outs-plain step i past = refl

state-cut : {M S : Type 0} (note : M → Note) (step : S → Input M → Deed M S) (i : Input M) (sends : ℕ) (past : Past S)
    → (after note step (Ends i sends) past).state ≡ (step past.state i).state
unfolding after_cut
state-cut note step i sends past = refl

outs-cut : {M S : Type 0} (note : M → Note) (step : S → Input M → Deed M S) (p : Params) (n : ℕ) (i : Input M) (sends : ℕ)
    (past : Past S) → AllByRecursion (IsAllowed note p n) (step past.state i).outs
    → AllByRecursion (IsAllowed note p n) (outs_of step (Ends i sends) past)
unfolding left_outs
outs-cut note step p n i sends past h = cut-all (IsAllowed note p n) sends (step past.state i).outs h

-- all faults apart
pub record IsFaultless {M S : Type 0} (p : Params) (m : Machine M S) (e : Event) : Type 0 where
  pub beat : (e.stamp.beat ≡ m.beat) ⊎ (e.stamp.beat ≡ suc m.beat)
  pub missed : missed_fault m.beat e.stamp.beat m.beings ≡ None
  pub node : node_fault p (node_of p e.act) e (slice_get m.beings (node_of p e.act)) ≡ None
  pub take : take_fault m.ways e.stamp.beat e.act ≡ None
  pub late : late_fault p m.ways e.stamp.beat e.act ≡ None
  pub death : death_fault p m.beings e.act ≡ None

pub faultless : {M S : Type 0} (p : Params) (m : Machine M S) (e : Event) → fault_of p m e ≡ None → IsFaultless p m e
faultless p m e h =
    let f5 = option_or (late_fault p m.ways e.stamp.beat e.act) (death_fault p m.beings e.act) in
    let f4 = option_or (take_fault m.ways e.stamp.beat e.act) f5 in
    let f3 = option_or (node_fault p (node_of p e.act) e (slice_get m.beings (node_of p e.act))) f4 in
    let f2 = option_or (missed_fault m.beat e.stamp.beat m.beings) f3 in
    let one = or-none (beat_fault m.beat e.stamp.beat) f2 h in
    let two = or-none (missed_fault m.beat e.stamp.beat m.beings) f3 one.1 in
    let three = or-none (node_fault p (node_of p e.act) e (slice_get m.beings (node_of p e.act))) f4 two.1 in
    let four = or-none (take_fault m.ways e.stamp.beat e.act) f5 three.1 in
    let five = or-none (late_fault p m.ways e.stamp.beat e.act) (death_fault p m.beings e.act) four.1 in
    record { beat = beat-none m.beat e.stamp.beat one.0; missed = two.0; node = three.0; take = four.0; late = five.0; death = five.1 }

pub some-same : {X : Type 0} (x y : X) → Some x ≡ Some y → x ≡ y
some-same x y h = cc

-- what an event does, as a move
pub record Moves {M S : Type 0} (note : M → Note) (step : S → Input M → Deed M S) (stands : S → Params → ℕ → Type 0)
    (p : Params) (nodes : ℕ) (m : Machine M S) (e : Event) : Type 0 where
  pub n : ℕ
  pub x : NodeEvent M
  pub b : Being S
  pub move : IsMove note step stands p nodes m e n x b
  pub at : node_of p e.act ≡ n
  pub event : node_event m.ways e.stamp e.act ≡ Some x
  pub is : happens note step p m e ≡ moved note step p m e n x b.past

-- an event that takes a message from a link, whatever the message is
record IsTaking {M : Type 0} (stamp : Stamp) (link : LinkNo) (x : M → NodeEvent M) : Type 0 where
  tests : (l : ℕ) (msg : M) → is_take_on l (x msg) ≡ (link.0 == l)
  takes : (msg : M) → take_on link.0 (x msg) ≡ (record { beat = stamp.beat; item = msg }) ∷ []
  no_tick : (msg : M) → is_tick (x msg) ≡ false

whole-taking : {M : Type 0} (stamp : Stamp) (link : LinkNo) → IsTaking {M = M} stamp link (λ msg. Does (Take stamp link msg))
whole-taking {M} stamp link = record {
  tests = λ l msg. refl;
  takes = λ msg. let t : (link.0 == link.0) ≡ true = eq-eqb link.0 link.0 refl in rw t refl;
  no_tick = λ msg. refl;
}

cut-taking : {M : Type 0} (stamp : Stamp) (link : LinkNo) (sends : ℕ)
    → IsTaking {M = M} stamp link (λ msg. Ends (Take stamp link msg) sends)
cut-taking {M} stamp link sends = record {
  tests = λ l msg. refl;
  takes = λ msg. let t : (link.0 == link.0) ≡ true = eq-eqb link.0 link.0 refl in rw t refl;
  no_tick = λ msg. refl;
}

module _ {M S : Type 0} (note : M → Note) (step : S → Input M → Deed M S) (stands : S → Params → ℕ → Type 0) (p : Params)
    (nodes beats : ℕ) (lawful : AreLawful note step stands p) (place : IsPlace p nodes beats) (first : ℕ → S)
    (m : Machine M S) (es : ℕ → List (NodeEvent M)) (h : Holds note step stands p nodes first m es) where
  goes-on : (b : ℕ) → (b ≡ m.beat) ⊎ (b ≡ suc m.beat) → m.beat ≤ b
  goes-on b o = ⊎_elim (λ (q : b ≡ m.beat). omega (arith, q)) (λ (q : b ≡ suc m.beat). omega (arith, q)) o

  -- a node that has not ticked in the beat has in all before
  at-beat : (e : Event) (n : ℕ) (b : Being S) → IsFaultless p m e → slice_get m.beings n ≡ Some b
      → IsLifeline note step stands p n m.beat (first n) b (es n) → b.dead ≡ false → nat_lt e.stamp.beat b.ticked ≡ false
      → e.stamp.beat ≡ b.ticked
  at-beat e n b free here line alive undone =
      let low = missed-none m.beat e.stamp.beat m.beings free.beat free.missed n b here alive (line.low alive) in
      grind (arith, nat_tests, undone, low)

  done-of : (e : Event) → IsFaultless p m e → (k : ℕ) (c : Being S) → slice_get m.beings k ≡ Some c → c.dead ≡ false
      → m.beat ≤ c.ticked → e.stamp.beat ≤ c.ticked
  done-of e free k c at alive low = missed-none m.beat e.stamp.beat m.beings free.beat free.missed k c at alive low

  short-of : (e : Event) (b : Being S) → e.stamp.beat < beats → IsFree p e b → e.stamp.reading ≤ most_reading
  short-of e b low free = let u = free.until in let s = place.short e.stamp.beat low in omega (arith, u, s)

  free-at : (e : Event) (n : ℕ) (b : Being S) → IsFaultless p m e → node_of p e.act ≡ n → slice_get m.beings n ≡ Some b
      → IsFree p e b
  free-at e n b free is here =
      let at : node_fault p n e (slice_get m.beings n) ≡ None =
      subst (λ k. node_fault p k e (slice_get m.beings k) ≡ None) is free.node in
      node-none p n e b (sym (ap (node_fault p n e) here) ∙ at)

  happens-as : (e : Event) (n : ℕ) (x : NodeEvent M) (b : Being S) → node_of p e.act ≡ n
      → node_event m.ways e.stamp e.act ≡ Some x → slice_get m.beings n ≡ Some b
      → happens note step p m e ≡ moved note step p m e n x b.past
  happens-as e n x b is event here =
      ap (λ k. happened note step p m e k (node_event m.ways e.stamp e.act) (slice_get m.beings k)) is
      ∙ ap (λ o. happened note step p m e n o (slice_get m.beings n)) event
      ∙ ap (λ o. happened note step p m e n (Some x) o) here

  -- what an event is to its node, but for how it stands in the node's life
  due-of : (e : Event) (n : ℕ) (b : Being S) (x : NodeEvent M) → IsFree p e b → e.stamp.beat < beats
      → stamp_at x ≡ e.stamp → MayLive b x → IsOpen b.ticked x → IsLed p n x → stands (after note step x b.past).state p n
      → AllByRecursion (IsAllowed note p n) (outs_of step x b.past) → IsDue note step stands p n e.stamp.beat b x
  due-of e n b x open_node low when lives open_here led stays allowed = record {
    lives = lives;
    dated = ap (λ (s : Stamp). s.beat) when;
    open_here = open_here;
    shown = subst (λ (s : Stamp). (time_of p s.beat ≤ s.reading) × (s.reading ≤ time_of p s.beat + p.skew)) (sym when)
        (open_node.from, open_node.until);
    later = subst (λ (s : Stamp). b.reading ≤ s.reading) (sym when) open_node.later;
    brief = subst (λ (s : Stamp). s.reading ≤ most_reading) (sym when) (short-of e b low open_node);
    led = led;
    stays = stays;
    allowed = allowed;
  }

  -- a whole step, and one in which the node's death comes
  due-whole : (e : Event) (n : ℕ) (b : Being S) (i : Input M) → IsFree p e b → e.stamp.beat < beats → stamp_of i ≡ e.stamp
      → IsLifeline note step stands p n m.beat (first n) b (es n) → b.dead ≡ false → e.stamp.beat ≡ b.ticked
      → IsLed p n (Does i) → MayCome p n i → IsDue note step stands p n e.stamp.beat b (Does i)
  due-whole e n b i open_node low when line alive at led comes =
      let right = lawful n b.past.state i comes line.stands_here in
      due-of e n b (Does i) open_node low when alive (ap (λ (s : Stamp). s.beat) when ∙ at) led
      (subst (λ s. stands s p n) (sym (state-plain note step i b.past)) right.0)
      (subst (AllByRecursion (IsAllowed note p n)) (sym (outs-plain step i b.past)) right.1)

  due-cut : (e : Event) (n : ℕ) (b : Being S) (i : Input M) (sends : ℕ) → IsFree p e b → e.stamp.beat < beats
      → stamp_of i ≡ e.stamp → IsLifeline note step stands p n m.beat (first n) b (es n)
      → (b.dead ≡ false) × (b.died ≡ None) → e.stamp.beat ≡ b.ticked
      → IsLed p n (Ends i sends) → MayCome p n i → IsDue note step stands p n e.stamp.beat b (Ends i sends)
  due-cut e n b i sends open_node low when line alive at led comes =
      let right = lawful n b.past.state i comes line.stands_here in
      due-of e n b (Ends i sends) open_node low when alive (ap (λ (s : Stamp). s.beat) when ∙ at) led
      (subst (λ s. stands s p n) (sym (state-cut note step i sends b.past)) right.0)
      (outs-cut note step p n i sends b.past right.1)

  -- an event that takes the oldest message of a link
  moves-take : (e : Event) (link : LinkNo) (x : M → NodeEvent M) (from to : ℕ) (b : Being S) → IsTaking e.stamp link x
      → ends_of (links_of p) link.0 ≡ Some (from, to) → slice_get m.beings to ≡ Some b → IsFaultless p m e
      → node_of p e.act ≡ to → node_event m.ways e.stamp e.act ≡ option_map (λ (d : Dated M). x d.item) (oldest m.ways link.0)
      → (old : IsOldest m.ways link.0 e.stamp.beat)
      → IsDue note step stands p to e.stamp.beat b (x old.head.item)
      → (is_death (x old.head.item) ≡ true → MayDie p m.beings to)
      → Moves note step stands p nodes m e
  moves-take e link x from to b taking ends here free node_is event_is old due dies =
      let beat = e.stamp.beat in
      let y : NodeEvent M = x old.head.item in
      let goes = goes-on beat free.beat in
      let event : node_event m.ways e.stamp e.act ≡ Some y =
      event_is ∙ ap (λ o. option_map (λ (d : Dated M). x d.item) o) old.first in
      record {
        n = to;
        x = y;
        b = b;
        move = record {
          within = (place.linked link.0 from to ends).1;
          here = here;
          due = due;
          goes = goes;
          done = done-of e free;
          takes = λ l f t w ends_l at takes.
              let same : link.0 ≡ l = eqb-true _ _ (sym (taking.tests l old.head.item) ∙ takes) in
              let ends_same : ◌≡◌ {A = Option (ℕ × ℕ)} (Some (f, t)) (Some (from, to)) =
              sym ends_l ∙ ap (ends_of (links_of p)) (sym same) ∙ ends in
              let pair_same : ◌≡◌ {A = ℕ × ℕ} (f, t) (from, to) = some-same (f, t) (from, to) ends_same in
              let way_same : Some w ≡ Some old.way = sym at ∙ ap (slice_get m.ways) (sym same) ∙ old.here in
              let w_same : w ≡ old.way = some-same w old.way way_same in
              let all : w.under_way ≡ old.head ∷ old.tail = ap (λ (v : Way M). v.under_way) w_same ∙ old.all in
              let on = (h.way l f t ends_l).2 in
              let on_way : Some (h.way l f t ends_l).0 ≡ Some w = sym (h.way l f t ends_l).1 ∙ at in
              let on_same : (h.way l f t ends_l).0 ≡ w = some-same (h.way l f t ends_l).0 w on_way in
              let before = subst (λ (v : Way M). AllByRecursion (λ (d : Dated M). d.beat ≤ m.beat) v.under_way) on_same on.old in
              let early = (subst (λ (ds : List (Dated M)). AllByRecursion (λ (d : Dated M). d.beat ≤ m.beat) ds) all before).0 in
              let other = old.other in (
                ap (λ (q : ℕ × ℕ). q.1) pair_same,
                record {
                  head = old.head;
                  tail = old.tail;
                  all = all;
                  takes = subst (λ k. take_on k y ≡ (record { beat = beat; item = old.head.item }) ∷ []) same
                      (taking.takes old.head.item);
                  earlier = omega (arith, early, goes, other);
                },
              );
          dies = dies;
          aged = λ t l f w ends_l at. let q : true ≡ false = sym t ∙ taking.no_tick old.head.item in absurd (cc);
        };
        at = node_is;
        event = event;
        is = happens-as e to y b node_is event here;
      }

  -- any other event
  moves-on : (e : Event) (n : ℕ) (x : NodeEvent M) (b : Being S) → n < nodes → slice_get m.beings n ≡ Some b
      → IsFaultless p m e → node_of p e.act ≡ n → node_event m.ways e.stamp e.act ≡ Some x
      → IsDue note step stands p n e.stamp.beat b x → ((l : ℕ) → is_take_on l x ≡ false)
      → (is_death x ≡ true → MayDie p m.beings n)
      → (is_tick x ≡ true → least_late p n e.stamp.beat 0 m.ways ≡ None) → Moves note step stands p nodes m e
  moves-on e n x b within here free node_is event due idle dies late = record {
    n = n;
    x = x;
    b = b;
    move = record {
      within = within;
      here = here;
      due = due;
      goes = goes-on e.stamp.beat free.beat;
      done = done-of e free;
      takes = λ l f t w ends_l at takes. let q : true ≡ false = sym takes ∙ idle l in absurd (cc);
      dies = dies;
      aged = λ t l f w ends_l at.
          late-none p n e.stamp.beat 0 m.ways (late t) l l w (omega arith) at (ap (leads_to n) ends_l ∙ eq-eqb n n refl);
    };
    at = node_is;
    event = event;
    is = happens-as e n x b node_is event here;
  }

  pub move-of : (stamp : Stamp) (a : Act) → IsEventOf p nodes beats (record { stamp = stamp; act = a })
      → IsFaultless p m (record { stamp = stamp; act = a })
      → Moves note step stands p nodes m (record { stamp = stamp; act = a })
  move-of stamp (act.Get link number) known free =
      let e : Event = record { stamp = stamp; act = act.Get link number } in
      let from = known.1.0 in
      let to = known.1.1 in
      let ends = known.1.2 in
      let node_is : node_of p e.act ≡ to = ap receiver ends in
      let own = h.node to (place.linked link.0 from to ends).1 in
      let b = own.0 in
      let open_node = free-at e to b free node_is own.1 in
      let old = take-none m.ways stamp.beat link number free.take in
      let i : Input M = Take stamp link old.head.item in
      let short = short-of e b known.0 open_node in
      moves-take e link (λ msg. Does (Take stamp link msg)) from to b (whole-taking stamp link) ends own.1 free node_is refl old
      (due-whole e to b i open_node known.0 refl own.2 open_node.life
      (at-beat e to b free own.1 own.2 open_node.life open_node.undone) (from, ends) (short, (from, ends)))
      (λ t. absurd (cc))
  move-of stamp (act.Tick node) known free =
      let e : Event = record { stamp = stamp; act = act.Tick node } in
      let n = node.0 in
      let own = h.node n known.1 in
      let b = own.0 in
      let open_node = free-at e n b free refl own.1 in
      moves-on e n (Does (Tick stamp)) b known.1 own.1 free refl refl
      (due-whole e n b (Tick stamp) open_node known.0 refl own.2 open_node.life
      (at-beat e n b free own.1 own.2 open_node.life open_node.undone) tt (short-of e b known.0 open_node))
      (λ l. refl) (λ t. absurd (cc)) (λ t. free.late)
  move-of stamp (act.Die cub) known free =
      let e : Event = record { stamp = stamp; act = act.Die cub } in
      let n = cub.0 in
      let cubs = place.cubs in
      let low = known.1 in
      let within : n < nodes = omega (arith, cubs, low) in
      let own = h.node n within in
      let b = own.0 in
      let line = own.2 in
      let open_node = free-at e n b free refl own.1 in
      let at = at-beat e n b free own.1 line open_node.life.0 (second (nat_lt stamp.beat b.acted) (nat_lt stamp.beat b.ticked) open_node.undone) in
      let living = death-none p m.beings n free.death in
      moves-on e n (Dies stamp) b within own.1 free refl refl
      (due-of e n b (Dies stamp) open_node known.0 refl open_node.life at tt line.stands_here tt)
      (λ l. refl) (λ t. (low, living.0, living.1)) (λ t. absurd (cc))
    where
      second : (a b : Bool) → a || b ≡ false → b ≡ false
      second true b q = absurd (cc)
      second false b q = q
  move-of stamp (act.DieIn (last.Get link number) sends) known free =
      let e : Event = record { stamp = stamp; act = act.DieIn (last.Get link number) sends } in
      let from = known.1.0 in
      let to = known.1.1 in
      let ends = known.1.2 in
      let node_is : node_of p e.act ≡ to = ap receiver ends in
      let own = h.node to (place.linked link.0 from to ends).1 in
      let b = own.0 in
      let open_node = free-at e to b free node_is own.1 in
      let old = take-none m.ways stamp.beat link number free.take in
      let i : Input M = Take stamp link old.head.item in
      let short = short-of e b known.0 open_node in
      let living = death-none p m.beings to (subst (λ k. neighbour_fault p m.beings k ≡ None) node_is free.death) in
      moves-take e link (λ msg. Ends (Take stamp link msg) sends) from to b (cut-taking stamp link sends) ends own.1 free node_is refl old
      (due-cut e to b i sends open_node known.0 refl own.2 open_node.life
      (at-beat e to b free own.1 own.2 open_node.life.0 open_node.undone) (from, ends) (short, (from, ends)))
      (λ t. (known.1.3, living.0, living.1))
  move-of stamp (act.DieIn (last.Tick node) sends) known free =
      let e : Event = record { stamp = stamp; act = act.DieIn (last.Tick node) sends } in
      let n = node.0 in
      let cubs = place.cubs in
      let low = known.1 in
      let within : n < nodes = omega (arith, cubs, low) in
      let own = h.node n within in
      let b = own.0 in
      let open_node = free-at e n b free refl own.1 in
      let living = death-none p m.beings n free.death in
      moves-on e n (Ends (Tick stamp) sends) b within own.1 free refl refl
      (due-cut e n b (Tick stamp) sends open_node known.0 refl own.2 open_node.life
      (at-beat e n b free own.1 own.2 open_node.life.0 open_node.undone) tt (short-of e b known.0 open_node))
      (λ l. refl) (λ t. (low, living.0, living.1)) (λ t. free.late)
  move-of stamp (act.Return cub) known free =
      let e : Event = record { stamp = stamp; act = act.Return cub } in
      let n = cub.0 in
      let cubs = place.cubs in
      let low = known.1 in
      let within : n < nodes = omega (arith, cubs, low) in
      let own = h.node n within in
      let b = own.0 in
      let open_node = free-at e n b free refl own.1 in
      let undone : nat_lt stamp.beat b.ticked ≡ false = open_node.undone in
      moves-on e n (Returns stamp) b within own.1 free refl refl
      (due-of e n b (Returns stamp) open_node known.0 refl open_node.life (grind (arith, nat_tests, undone)) tt own.2.stands_here tt)
      (λ l. refl) (λ t. absurd (cc)) (λ t. absurd (cc))
