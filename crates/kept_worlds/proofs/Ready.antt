-- The next event of a node may happen: nothing of it is missing, late, early or beside a cub that died.
use Rattle.std.proofs.Common.{◌≡◌, ℕ, suc, ◌+◌, ◌-◌, ◌%◌, ◌<◌, List, [], ◌∷◌, length, true, false, Option, Some, None, refl, ap, sym, ◌∙◌, subst, arith, ⊎_elim, inl, inr}
use Rattle.std.specs.Prelude.{slice_get, option_map, nat_lt, nat_le, is_some, ◌==◌}
use Rattle.std.specs.List.{AllByRecursion}
use Rattle.std.proofs.Math.Nat.{mod_self, mod-eq_of_lt, mod-lt}
use Rattle.std.proofs.lemmas.Option.{none-some}
use Rattle.std.proofs.lemmas.Bool.{cases_Bool, cases_eq, eqb-true, eq-eqb, ne_eqb}
use Rattle.std.proofs.lemmas.Bool.Decides.{nat_tests}
use Rattle.tiger_base.specs.declared.number.Stamp.{Stamp}
use Rattle.tiger_base.specs.declared.number.LinkNo.{LinkNo}
use Rattle.tiger_base.specs.declared.message.Note.{Note}
use Rattle.slot_plan.specs.declared.params.Params.{Params}
use Rattle.node_kit.specs.Links.{links_of, ends_of, leads_to}
use Rattle.node_kit.specs.Steps.{Input, Deed}
use Rattle.node_kit.specs.Steps.Input.{Take, Tick}
use Rattle.run_facts.specs.Events.{NodeEvent, Dated, opening, stamp_at, is_tick, is_death, is_return, is_take_on}
use Rattle.run_facts.specs.Events.{sends_along, input_on, take_on}
use Rattle.run_facts.specs.Events.NodeEvent.{Does, Ends, Dies, Returns}
use Rattle.run_facts.specs.Accounts.{IsLed}
use Rattle.run_facts.specs.Histories.{History, IsRun, TakesAt, beat, below, sent}
use Rattle.run_facts.proofs.Rows.{same-element}
use Rattle.run_facts.proofs.Counts.{sent-stays}
use Rattle.ring_world.specs.declared.event.Act.TheVariants as act
use Rattle.ring_world.specs.Machine.{Machine, Being, Way, undying, oldest, receiver, node_of, node_event}
use Rattle.ring_world.specs.Faults.{has_done, life_fault, take_fault, late_fault, death_fault, has_died, cub_before, cub_after, neighbour_fault, IsActOf}
use Rattle.ring_world.specs.Laws.{IsPlace}
use Rattle.ring_world.proofs.Neighbours.{MayDie}
use Rattle.ring_world.specs.Merging.{act_of, place_along}
use Rattle.ring_world.proofs.Ways.{IsOnWay, IsTakenOff}
use Rattle.kept_worlds.specs.Merges.{LivesThrough, MayHappen}
use Rattle.kept_worlds.proofs.Faultless.{none-take, none-late, none-death}
use Rattle.kept_worlds.proofs.Numbers.{get-after, sent-below, sent-by, taken-in, young-at_tick}
use Rattle.kept_worlds.proofs.Points.{IsAt, IsNext, sent-here, size-of, event-of, taken-here, spared, own}
use Rattle.kept_worlds.proofs.Points.{own-acted, own-dead, own-first, own-lives, own-undied, undone}
use Rattle.run_facts.proofs.Passing.{beats_never_fall, death_here}
use Rattle.kept_worlds.proofs.Returning.{number_of}

-- a list that has a first element
first-of : {X : Type 0} (xs : List X) (x : X) → slice_get xs 0 ≡ Some x → (tail : List X) × (xs ≡ x ∷ tail)
first-of [] x at = absurd (none-some x at)
first-of (y ∷ ys) x at = let same : y ≡ x = cc in (ys, ap (λ z. z ∷ ys) same)

pub all-from_get : {X : Type 0} (P : X → Type 0) (xs : List X)
    → ((j : ℕ) (x : X) → slice_get xs j ≡ Some x → P x) → AllByRecursion P xs
all-from_get P [] f = tt
all-from_get P (x ∷ xs) f = (f 0 x refl, all-from_get P xs (λ j y at. f (suc j) y at))

leads-from : (n : ℕ) (o : Option (ℕ × ℕ)) → leads_to n o ≡ true → (from : ℕ) × (o ≡ Some (from, n))
leads-from n None h = absurd (cc)
leads-from n (Some e) h = let same : e.1 ≡ n = eqb-true _ _ h in (e.0, ap (λ t. Some (e.0, t)) same)

end-same : (a b n t : ℕ) → ◌≡◌ {A = Option (ℕ × ℕ)} (Some (a, n)) (Some (b, t)) → t ≡ n
end-same a b n t e = let pair : ◌≡◌ {A = ℕ × ℕ} (a, n) (b, t) = cc in sym (ap (λ (q : ℕ × ℕ). q.1) pair)

-- the cub before a cub has it behind it
before-low : (p : Params) (n : ℕ) → n < p.cubs → cub_before p n < p.cubs
before-low p n low = ⊎_elim
    (λ (t : (n == 0) ≡ true). rw t (omega (arith, low)))
    (λ (t : (n == 0) ≡ false). rw t (omega (arith, low)))
    (cases_Bool (n == 0))

after-before : (p : Params) (n : ℕ) → n < p.cubs → cub_after p (cub_before p n) ≡ n
after-before p n low = ⊎_elim
    (λ (first : n ≡ 0).
    let t : (n == 0) ≡ true = eq-eqb n 0 first in
    let sum : p.cubs - 1 + 1 ≡ p.cubs = omega (arith, low) in
    rw t (ap (λ q. q % p.cubs) sum ∙ mod_self p.cubs ∙ sym first))
    (λ (other : n ≡ 0 → ⊥).
    let t : (n == 0) ≡ false = ne_eqb n 0 other in
    let sum : n - 1 + 1 ≡ n = omega (arith, other) in
    rw t (ap (λ q. q % p.cubs) sum ∙ mod-eq_of_lt low))
    (cases_eq n 0)

module _ {M S : Type 0} (note : M → Note) (step : S → Input M → Deed M S) (p : Params) (nodes beats : ℕ) (h : History M S)
    (place : IsPlace p nodes beats) (run : IsRun note step p nodes h)
    (may : MayHappen p nodes beats h)
    (m : Machine M S) (es : ℕ → List (NodeEvent M)) (at : ℕ → ℕ)
    (point : IsAt note step p nodes beats h place run may m es at)
    (n : ℕ) (next : IsNext note step p nodes beats h place run may m at n) where
  -- when the next event happens, and to whom
  abbrev now : ℕ
  now = beat h n (at n)

  abbrev mine : Being S
  mine = own note step p nodes beats h place run may m es at point n next

  -- this event of the node may happen to the machine, by its kind
  pub record IsReady (y : NodeEvent M) : Type 0 where
    pub known : IsActOf p nodes (act_of h.before (es n) n y)
    pub theirs : node_of p (act_of h.before (es n) n y) ≡ n
    pub event : node_event m.ways (stamp_at y) (act_of h.before (es n) n y) ≡ Some y
    pub led : IsLed p n y
    pub life : life_fault n (act_of h.before (es n) n y) now mine ≡ None
    pub free : has_done (act_of h.before (es n) n y) now mine ≡ false
    pub take : take_fault m.ways now (act_of h.before (es n) n y) ≡ None
    pub late : late_fault p m.ways now (act_of h.before (es n) n y) ≡ None
    pub death : death_fault p m.beings (act_of h.before (es n) n y) ≡ None
    pub takes : (l from to : ℕ) (w : Way M) → ends_of (links_of p) l ≡ Some (from, to) → slice_get m.ways l ≡ Some w
        → is_take_on l y ≡ true → (to ≡ n) × IsTakenOff now l w y
    pub dies : is_death y ≡ true → MayDie p m.beings n
    pub aged : is_tick y ≡ true → (l from : ℕ) (w : Way M) → ends_of (links_of p) l ≡ Some (from, n)
        → slice_get m.ways l ≡ Some w → AllByRecursion (λ (d : Dated M). now < d.beat + p.delay) w.under_way

  not-ticked : nat_lt now mine.ticked ≡ false
  not-ticked = undone note step p nodes beats h place run may m es at point n next

  lives-here : is_return (h.event n (at n)) ≡ false → mine.dead ≡ false
  lives-here = own-lives note step p nodes beats h place run may m es at point n next

  -- who dies lives, and has never died
  alive-here : is_death (h.event n (at n)) ≡ true → (mine.dead ≡ false) × (mine.died ≡ None)
  alive-here died = (
    lives-here (death_here (h.event n (at n)) died),
    own-undied note step p nodes beats h place run may m es at point n next died,
  )

  -- what is gone was taken, or lost by a return: below that all is sent that is sent at all
  gone-is : (l from : ℕ) (w : Way M) → ends_of (links_of p) l ≡ Some (from, n)
      → IsOnWay p.delay m.beat l w (sends_along note step l (es from) (opening (h.first from) undying)) (es n)
      → place_along l (h.before l) 0 (es n) ≡ w.gone
  gone-is l from w ends on = on.place (h.before l) (λ i stamp low is.
      let low_from = (place.linked l from n ends).0 in
      let size = size-of note step p nodes beats h place run may m es at point n next.low in
      let high : i < at n = omega (arith, low, size) in
      let here = next.here in
      let theirs : h.event n i ≡ Returns stamp =
      sym (event-of note step p nodes beats h place run may m es at point n i next.low high) ∙ is in
      let rise = beats_never_fall run n next.low i (at n) (omega (arith, high)) here in
      let dated : beat h n i ≡ stamp.beat = ap (λ (e : NodeEvent M). (stamp_at e).beat) theirs in
      run.before l from n i stamp low_from next.low ends (omega (arith, high, here)) theirs
      ∙ sym (sent-below note step l h from stamp.beat (at from) (h.count from)
      (point.within from low_from) (λ e up below_it.
      let first = next.first from e low_from up below_it in omega (arith, first, rise, dated)))
      ∙ ap (below stamp.beat) (sym (sent-here note step p nodes beats h place run may m es at point l from n ends)))

  -- what is under way on a link to the node stands behind what was taken there
  waiting-at : (l from j : ℕ) (w : Way M) (d : Dated M) → ends_of (links_of p) l ≡ Some (from, n) → slice_get m.ways l ≡ Some w
      → slice_get w.under_way j ≡ Some d → slice_get (sent note step l h from (at from)) (number_of l h n (at n) + j) ≡ Some d
  waiting-at l from j w d ends here there =
      let theirs = point.holds.way l from n ends in
      let same : theirs.0 ≡ w = same-element m.ways l theirs.0 w theirs.1 here in
      let on = theirs.2 in
      let number = on.number in
      let gone = gone-is l from theirs.0 ends on in
      let count = taken-here note step p nodes beats h place run may m es at point l n next.low in
      let behind : number_of l h n (at n) + j ≡ length on.gone + j = omega (arith, gone, count, number) in
      ap (λ ds. slice_get ds (number_of l h n (at n) + j))
      (sym (sent-here note step p nodes beats h place run may m es at point l from n ends) ∙ on.split)
      ∙ get-after on.gone theirs.0.under_way (number_of l h n (at n) + j) j behind
      ∙ ap (λ (v : Way M). slice_get v.under_way j) same ∙ there

  -- and the other way round: what is sent with the number of the next take is the oldest under way
  next-at : (l from : ℕ) (d : Dated M) → ends_of (links_of p) l ≡ Some (from, n)
      → slice_get (sent note step l h from (at from)) (number_of l h n (at n)) ≡ Some d
      → (w : Way M) × (slice_get m.ways l ≡ Some w) × (w.gone ≡ place_along l (h.before l) 0 (es n)) × (tail : List (Dated M))
      × (w.under_way ≡ d ∷ tail)
  next-at l from d ends was =
      let theirs = point.holds.way l from n ends in
      let on = theirs.2 in
      let number = on.number in
      let gone = gone-is l from theirs.0 ends on in
      let count = taken-here note step p nodes beats h place run may m es at point l n next.low in
      let behind : number_of l h n (at n) ≡ length on.gone + 0 = omega (arith, gone, count, number) in
      let head : slice_get theirs.0.under_way 0 ≡ Some d = sym (get-after on.gone theirs.0.under_way (number_of l h n (at n)) 0 behind)
      ∙ ap (λ ds. slice_get ds (number_of l h n (at n))) (sym on.split ∙ sent-here note step p nodes beats h place run may m es at point l from n ends)
      ∙ was in
      let all = first-of theirs.0.under_way d head in
      (theirs.0, theirs.1, sym gone, all.0, all.1)

  -- a message is taken that is under way, and perhaps the death comes in that
  record TakesOldest (stamp : Stamp) (link : LinkNo) (msg : M) (y : NodeEvent M) : Type 0 where
    from : ℕ
    ends : ends_of (links_of p) link.0 ≡ Some (from, n)
    head : Dated M
    item : head.item ≡ msg
    earlier : head.beat < now
    way : Way M
    there : slice_get m.ways link.0 ≡ Some way
    number : place_along link.0 (h.before link.0) 0 (es n) ≡ way.gone
    old : oldest m.ways link.0 ≡ Some head
    off : IsTakenOff now link.0 way y

  takes-oldest : (stamp : Stamp) (link : LinkNo) (msg : M) (y : NodeEvent M) → TakesAt (h.event n (at n)) stamp link msg
      → take_on link.0 y ≡ (record { beat = stamp.beat; item = msg }) ∷ [] → TakesOldest stamp link msg y
  takes-oldest stamp link msg y is taking =
      let came = run.carried n (at n) stamp link msg next.low next.here is in
      let dated : now ≡ stamp.beat = taken-in (h.event n (at n)) stamp link msg is in
      let later = came.later in
      let earlier : came.when < now = omega (arith, later, dated) in
      let d : Dated M = record { beat = came.when; item = msg } in
      let was = sent-by note step link.0 h came.from (at came.from) (h.count came.from) (number_of link.0 h n (at n)) now d earlier
      (λ e low high. next.first came.from e came.known low high) came.was_sent in
      let way = next-at link.0 came.from d came.ends was in
      let old : oldest m.ways link.0 ≡ Some d = rw (way.1, way.4) refl in
      record {
        from = came.from;
        ends = came.ends;
        head = d;
        item = refl;
        earlier = earlier;
        way = way.0;
        there = way.1;
        number = sym way.2;
        old = old;
        off = record {
          head = d;
          tail = way.3;
          all = way.4;
          takes = taking ∙ ap (λ b. (record { beat = b; item = msg }) ∷ []) (sym dated);
          earlier = earlier;
        };
      }

  taken-there : (stamp : Stamp) (link : LinkNo) (msg : M) (y : NodeEvent M) (t : TakesOldest stamp link msg y)
      → (l from to : ℕ) (w : Way M) → ends_of (links_of p) l ≡ Some (from, to) → slice_get m.ways l ≡ Some w
      → link.0 ≡ l → (to ≡ n) × IsTakenOff now l w y
  taken-there stamp link msg y t l from to w ends here same =
      let both : ◌≡◌ {A = Option (ℕ × ℕ)} (Some (t.from, n)) (Some (from, to)) =
      sym t.ends ∙ ap (ends_of (links_of p)) same ∙ ends in
      let one : t.way ≡ w = same-element m.ways l t.way w (ap (slice_get m.ways) (sym same) ∙ t.there) here in
      let theirs = subst (λ (v : Way M). IsTakenOff now link.0 v y) one t.off in
      (end-same t.from from n to both, subst (λ q. IsTakenOff now q w y) same theirs)

  take-of_it : (stamp : Stamp) (link : LinkNo) (msg : M)
      → input_on link.0 (Take stamp link msg) ≡ (record { beat = stamp.beat; item = msg }) ∷ []
  take-of_it stamp link msg = let hit : (link.0 == link.0) ≡ true = eq-eqb link.0 link.0 refl in rw hit refl

  ready-take : (stamp : Stamp) (link : LinkNo) (msg : M) → h.event n (at n) ≡ Does (Take stamp link msg)
      → IsReady (Does (Take stamp link msg))
  ready-take stamp link msg is =
      let y : NodeEvent M = Does (Take stamp link msg) in
      let t = takes-oldest stamp link msg y (inl is) (take-of_it stamp link msg) in
      record {
        known = (t.from, n, t.ends);
        theirs = ap receiver t.ends;
        event = ap (λ o. option_map (λ (q : Dated M). Does (Take stamp link q.item)) o) t.old
            ∙ ap (λ q. Some (Does (Take stamp link q))) t.item;
        led = (t.from, t.ends);
        life = (let up = lives-here (ap is_return is) in rw up refl);
        free = not-ticked;
        take = none-take m.ways now link (place_along link.0 (h.before link.0) 0 (es n)) t.way t.head t.there t.number t.old t.earlier;
        late = refl;
        death = refl;
        takes = λ l from to w ends here takes_it. taken-there stamp link msg y t l from to w ends here (eqb-true _ _ takes_it);
        dies = λ t. absurd (cc);
        aged = λ t l from w ends here. absurd (cc);
      }

  -- what is under way when the node ticks may still arrive in a later beat
  young : is_tick (h.event n (at n)) ≡ true → (l from : ℕ) (w : Way M) → ends_of (links_of p) l ≡ Some (from, n)
      → slice_get m.ways l ≡ Some w → AllByRecursion (λ (d : Dated M). now < d.beat + p.delay) w.under_way
  young ticks_it l from w ends here =
      let low_from = (place.linked l from n ends).0 in
      all-from_get (λ (d : Dated M). now < d.beat + p.delay) w.under_way (λ j d there.
      let k = number_of l h n (at n) + j in
      let was = sent-stays note step l h from (at from) (h.count from) k d (point.within from low_from)
      (waiting-at l from j w d ends here there) in
      young-at_tick note step p nodes h run l from n (at n) k d low_from next.low next.here ends ticks_it was (omega arith))

  late-none : is_tick (h.event n (at n)) ≡ true → late_fault p m.ways now (act.Tick (record { 0 = n })) ≡ None
  late-none ticks_it =
      none-late p n now m.ways (λ l w here leads.
      let from = leads-from n (ends_of (links_of p) l) leads in young ticks_it l from.0 w from.1 here)

  ready-tick : (stamp : Stamp) → h.event n (at n) ≡ Does (Tick stamp) → IsReady (Does (Tick stamp))
  ready-tick stamp is =
      let ticks_it : is_tick (h.event n (at n)) ≡ true = ap is_tick is in
      record {
        known = next.low;
        theirs = refl;
        event = refl;
        led = tt;
        life = (let up = lives-here (ap is_return is) in rw up refl);
        free = not-ticked;
        take = refl;
        late = late-none ticks_it;
        death = refl;
        takes = λ l from to w ends here takes_it. absurd (cc);
        dies = λ t. absurd (cc);
        aged = λ t. young ticks_it;
      }

  -- who dies is a cub between two that have never died
  may-die : is_death (h.event n (at n)) ≡ true → MayDie p m.beings n
  may-die died =
      let low = may.cubs n (at n) next.low next.here died in
      let dead_here : LivesThrough h n → ⊥ = λ through. let q : true ≡ false = sym died ∙ through (at n) next.here in absurd (cc) in
      let spare : (k : ℕ) → k < p.cubs → LivesThrough h k → has_died (slice_get m.beings k) ≡ false = λ k low_k through.
      (let cubs = place.cubs in
      let within : k < nodes = omega (arith, low_k, cubs) in
      let theirs = point.holds.node k within in
      ap has_died theirs.1
      ∙ ap is_some (spared note step p nodes beats h place run may m es at point k theirs.0 within theirs.1 through).1) in
      let before = cub_before p n in
      let after_low : cub_after p n < p.cubs = mod-lt (n + 1) (omega (arith, low)) in
      let after_lives : has_died (slice_get m.beings (cub_after p n)) ≡ false = ⊎_elim
      (λ (through : LivesThrough h n). absurd (dead_here through))
      (λ (through : LivesThrough h (cub_after p n)). spare (cub_after p n) after_low through)
      (may.apart n low) in
      let before_lives : has_died (slice_get m.beings before) ≡ false = ⊎_elim
      (λ (through : LivesThrough h before). spare before (before-low p n low) through)
      (λ (through : LivesThrough h (cub_after p before)). absurd (dead_here (subst (LivesThrough h) (after-before p n low) through)))
      (may.apart before (before-low p n low)) in
      (low, before_lives, after_lives)

  ready-death : (stamp : Stamp) → h.event n (at n) ≡ Dies stamp → IsReady (Dies stamp)
  ready-death stamp is =
      let free = may-die (ap is_death is) in
      let acted = own-acted note step p nodes beats h place run may m es at point n next stamp is in
      let idle : nat_lt now mine.acted ≡ false = grind (arith, nat_tests, acted) in
      record {
        known = free.0;
        theirs = refl;
        event = refl;
        led = tt;
        life = (let up = alive-here (ap is_death is) in rw (up.0, up.1) refl);
        free = rw idle not-ticked;
        take = refl;
        late = refl;
        death = none-death p m.beings n free.1 free.2;
        takes = λ l from to w ends here takes_it. absurd (cc);
        dies = λ _. free;
        aged = λ t l from w ends here. absurd (cc);
      }

  -- a message in whose take the death comes
  ready-last_take : (stamp : Stamp) (link : LinkNo) (msg : M) (sends : ℕ)
      → h.event n (at n) ≡ Ends (Take stamp link msg) sends → IsReady (Ends (Take stamp link msg) sends)
  ready-last_take stamp link msg sends is =
      let y : NodeEvent M = Ends (Take stamp link msg) sends in
      let t = takes-oldest stamp link msg y (inr (sends, is)) (take-of_it stamp link msg) in
      let free = may-die (ap is_death is) in
      let theirs : receiver (ends_of (links_of p) link.0) ≡ n = ap receiver t.ends in
      record {
        known = (t.from, n, t.ends, free.0);
        theirs = theirs;
        event = ap (λ o. option_map (λ (q : Dated M). Ends (Take stamp link q.item) sends) o) t.old
            ∙ ap (λ q. Some (Ends (Take stamp link q) sends)) t.item;
        led = (t.from, t.ends);
        life = (let up = alive-here (ap is_death is) in rw (up.0, up.1) refl);
        free = not-ticked;
        take = none-take m.ways now link (place_along link.0 (h.before link.0) 0 (es n)) t.way t.head t.there t.number t.old t.earlier;
        late = refl;
        death = ap (neighbour_fault p m.beings) theirs ∙ none-death p m.beings n free.1 free.2;
        takes = λ l from to w ends here takes_it. taken-there stamp link msg y t l from to w ends here (eqb-true _ _ takes_it);
        dies = λ _. free;
        aged = λ t l from w ends here. absurd (cc);
      }

  -- and a tick in which it comes
  ready-last_tick : (stamp : Stamp) (sends : ℕ) → h.event n (at n) ≡ Ends (Tick stamp) sends
      → IsReady (Ends (Tick stamp) sends)
  ready-last_tick stamp sends is =
      let ticks_it : is_tick (h.event n (at n)) ≡ true = ap is_tick is in
      let free = may-die (ap is_death is) in
      record {
        known = free.0;
        theirs = refl;
        event = refl;
        led = tt;
        life = (let up = alive-here (ap is_death is) in rw (up.0, up.1) refl);
        free = not-ticked;
        take = refl;
        late = late-none ticks_it;
        death = none-death p m.beings n free.1 free.2;
        takes = λ l from to w ends here takes_it. absurd (cc);
        dies = λ _. free;
        aged = λ t. young ticks_it;
      }

  -- a return of a cub that is dead, since two beats or more, and has not returned before
  ready-return : (stamp : Stamp) → h.event n (at n) ≡ Returns stamp → IsReady (Returns stamp)
  ready-return stamp is =
      let back : is_return (h.event n (at n)) ≡ true = ap is_return is in
      let dead = own-dead note step p nodes beats h place run may m es at point n next back in
      let away = own-first note step p nodes beats h place run may m es at point n next back in
      let one = run.returned n (at n) next.low next.here back in
      let after = one.next in
      let here = next.here in
      let apart = dead.3 in
      let long : nat_le (dead.1 + 2) now ≡ true = grind (arith, nat_tests, apart) in
      record {
        known = may.cubs n one.last next.low (omega (arith, after, here)) one.died;
        theirs = refl;
        event = refl;
        led = tt;
        life = rw (dead.0, dead.2, long, away) refl;
        free = not-ticked;
        take = refl;
        late = refl;
        death = refl;
        takes = λ l from to w ends here takes_it. absurd (cc);
        dies = λ t. absurd (cc);
        aged = λ t l from w ends here. absurd (cc);
      }

  by-event : (y : NodeEvent M) → h.event n (at n) ≡ y → IsReady y
  by-event (Does (Take stamp link msg)) is = ready-take stamp link msg is
  by-event (Does (Tick stamp)) is = ready-tick stamp is
  by-event (Ends (Take stamp link msg) sends) is = ready-last_take stamp link msg sends is
  by-event (Ends (Tick stamp) sends) is = ready-last_tick stamp sends is
  by-event (Dies stamp) is = ready-death stamp is
  by-event (Returns stamp) is = ready-return stamp is

  pub ready : IsReady (h.event n (at n))
  ready = by-event (h.event n (at n)) refl
