-- A machine that is sound can do each event that has no fault, and is sound afterwards.
use Rattle.std.proofs.Common.{◌≡◌, ℕ, zero, suc, ◌<◌, ◌≤◌, List, [], ◌∷◌, ◌++◌, filter, length, Bool, true, false}
use Rattle.std.proofs.Common.{◌||◌, ◌&&◌, Option, Some, None, refl, ap, sym, ◌∙◌, subst, arith, cond, ⊎_elim}
use Rattle.std.specs.Prelude.{slice_get, option_map, nat_lt, nat_le, ◌==◌, if◌then◌else◌}
use Rattle.std.specs.List.{AllByRecursion}
use Rattle.std.proofs.lemmas.Bool.{cases_Bool, cases_eq, eq-eqb, ne_eqb}
use Rattle.std.proofs.lemmas.Bool.Decides.{nat_tests}
use Rattle.std.proofs.lemmas.Option.{none-some}
use Rattle.tiger_base.specs.Limits.{most_beats}
use Rattle.tiger_base.specs.declared.message.Note.{Note}
use Rattle.tiger_base.specs.declared.number.LinkNo.{LinkNo}
use Rattle.slot_plan.specs.declared.params.Params.{Params}
use Rattle.slot_plan.specs.Conditions.{IsPlan}
use Rattle.node_kit.specs.Links.{links_of, ends_of, leads_to, IsInLink}
use Rattle.node_kit.specs.Steps.{Input, Deed}
use Rattle.run_facts.specs.Accounts.{Rising}
use Rattle.run_facts.specs.Events.{NodeEvent, Past, Dated, outs_of, stamp_at, is_return, is_take_on, sends_of}
use Rattle.run_facts.proofs.Along.{sends_of-dated}
use Rattle.run_facts.proofs.Rows.{all-append, all-filter, all-weaker, rising-right, same-element}
use Rattle.ring_world.specs.declared.event.Act.{Act}
use Rattle.ring_world.specs.declared.event.Act.TheVariants as act
use Rattle.ring_world.specs.declared.event.Last.{Last}
use Rattle.ring_world.specs.declared.event.Last.TheVariants as last
use Rattle.ring_world.specs.declared.event.Event.{Event}
use Rattle.ring_world.specs.Machine.{Machine, Being, Way, each_at, lived, dropped, lost_on, gone_on, rest_of, node_of}
use Rattle.ring_world.specs.Machine.{node_of_last, receiver, happens}
use Rattle.ring_world.specs.Faults.{fault_of, has_done, node_fault, get_fault, take_fault, last_take_fault, IsActOf}
use Rattle.ring_world.specs.Faults.{IsLastOf, IsEventOf}
use Rattle.ring_world.specs.Laws.{IsPlace}
use Rattle.ring_world.proofs.Accepting.{IsFaultless, faultless}
use Rattle.ring_world.proofs.Faults.{IsFree, node-none, take-none}
use Rattle.ring_world.proofs.Lists.{each-get, each-length, split-rising}
use Rattle.ring_world.proofs.Places.{plans-places}
use Rattle.world.specs.Moving.{HasLink, CanTake, CanTakeLast, IsReady, HasMoved}
use Rattle.world.specs.Posting.{IsOrderly}
use Rattle.world.specs.Running.{nodes_of, IsSound}

-- Messages in order of their beats, and then some of one beat that is no earlier.
rising_more : {M : Type 0} (beat : ℕ) (ds es : List (Dated M)) → Rising (λ (d : Dated M). d.beat) ds
    → AllByRecursion (λ (d : Dated M). d.beat ≤ beat) ds → AllByRecursion (λ (d : Dated M). d.beat ≡ beat) es
    → Rising (λ (d : Dated M). d.beat) (ds ++ es)
rising_more beat [] [] rising low at = tt
rising_more {M} beat [] (e ∷ es) rising low at =
    let first = at.0 in (
      all-weaker (λ (d : Dated M). d.beat ≡ beat) (λ d. e.beat ≤ d.beat) es (λ d h. omega (arith, h, first)) at.1,
      rising_more beat [] es tt tt at.1,
    )
rising_more {M} beat (d ∷ ds) es rising low at =
    let first = low.0 in (
      all-append (λ (x : Dated M). d.beat ≤ x.beat) ds es rising.0
          (all-weaker (λ (x : Dated M). x.beat ≡ beat) (λ x. d.beat ≤ x.beat) es (λ x h. omega (arith, h, first)) at),
      rising_more beat ds es rising.1 low.1 at,
    )

rest_rising : {M : Type 0} (ds : List (Dated M)) → Rising (λ (d : Dated M). d.beat) ds → Rising (λ (d : Dated M). d.beat) (rest_of ds)
rest_rising [] h = tt
rest_rising (d ∷ ds) h = h.1

rest_low : {M : Type 0} (P : Dated M → Type 0) (ds : List (Dated M)) → AllByRecursion P ds → AllByRecursion P (rest_of ds)
rest_low P [] h = tt
rest_low P (d ∷ ds) h = h.1

-- A link stays orderly when a return loses what is older.
orderly_lost : {M : Type 0} (p : Params) (n : ℕ) (x : NodeEvent M) (l now : ℕ) (w : Way M) → IsOrderly now w
    → IsOrderly now (lost_on p n x l w)
orderly_lost {M} p n x l now w old = by (is_return x && leads_to n (ends_of (links_of p) l))
  where
    b : ℕ
    b = (stamp_at x).beat

    by : (t : Bool) → IsOrderly now (cond t (dropped (stamp_at x).beat w) w)
    by true = record {
      rising = rising-right (λ (d : Dated M). d.beat) (filter (λ (d : Dated M). nat_lt d.beat b) w.under_way)
          (filter (λ (d : Dated M). nat_le b d.beat) w.under_way)
          (subst (λ (ds : List (Dated M)). Rising (λ (d : Dated M). d.beat) ds)
          (split-rising (λ (d : Dated M). d.beat) b w.under_way old.rising) old.rising);
      sent = all-filter (λ (d : Dated M). d.beat ≤ now) (λ (d : Dated M). nat_le b d.beat) w.under_way old.sent;
    }
    by false = old

-- And in an event.
orderly_after : {M S : Type 0} (step : S → Input M → Deed M S) (x : NodeEvent M) (past : Past S) (l now beat : ℕ) (w : Way M)
    → now ≤ beat → (stamp_at x).beat ≡ beat → IsOrderly now w → IsOrderly beat (gone_on step x past l w)
orderly_after {M} step x past l now beat w goes when old =
    let os = outs_of step x past in
    let ds = sends_of l (stamp_at x).beat os in
    let fresh = sends_of-dated (λ b. b ≡ beat) l (stamp_at x).beat os when in
    let low = all-weaker (λ (d : Dated M). d.beat ≤ now) (λ d. d.beat ≤ beat) w.under_way (λ d h. omega (arith, h, goes)) old.sent in
    let new = all-weaker (λ (d : Dated M). d.beat ≡ beat) (λ d. d.beat ≤ beat) ds (λ d h. omega (arith, h)) fresh in
    ⊎_elim
    (λ (t : is_take_on l x ≡ true).
    let is : gone_on step x past l w ≡ record { gone = suc w.gone; under_way = rest_of w.under_way ++ ds } = rw t refl in
    let left = rest_low (λ (d : Dated M). d.beat ≤ beat) w.under_way low in
    subst (IsOrderly beat) (sym is) (record {
      rising = rising_more beat (rest_of w.under_way) ds (rest_rising w.under_way old.rising) left fresh;
      sent = all-append (λ (d : Dated M). d.beat ≤ beat) (rest_of w.under_way) ds left new;
    }))
    (λ (f : is_take_on l x ≡ false).
    let is : gone_on step x past l w ≡ record { gone = w.gone; under_way = w.under_way ++ ds } = rw f refl in
    subst (IsOrderly beat) (sym is) (record {
      rising = rising_more beat w.under_way ds old.rising low fresh;
      sent = all-append (λ (d : Dated M). d.beat ≤ beat) w.under_way ds low new;
    }))
    (cases_Bool (is_take_on l x))

get_some : {X : Type 0} (xs : List X) (n : ℕ) → n < length xs → (x : X) × (slice_get xs n ≡ Some x)
get_some [] n low = absurd (omega (arith, low))
get_some (x ∷ xs) zero low = (x, refl)
get_some (x ∷ xs) (suc n) low = get_some xs n (omega (arith, low))

-- What stands in a list that is changed place by place.
changed_from : {X : Type 0} (f : ℕ → X → X) (xs : List X) (k : ℕ) (y : X) → slice_get (each_at f 0 xs) k ≡ Some y
    → (x : X) × (slice_get xs k ≡ Some x) × (y ≡ f k x)
changed_from {X} f xs k y at = by (slice_get xs k) refl
  where
    by : (o : Option X) → slice_get xs k ≡ o → (x : X) × (slice_get xs k ≡ Some x) × (y ≡ f k x)
    by None e =
        let none : slice_get (each_at f 0 xs) k ≡ None = each-get f 0 xs k k (omega arith) ∙ ap (option_map (f k)) e in
        absurd (none-some y (sym none ∙ at))
    by (Some x) e =
        let there : slice_get (each_at f 0 xs) k ≡ Some (f k x) = each-get f 0 xs k k (omega arith) ∙ ap (option_map (f k)) e in
        (x, e, same-element (each_at f 0 xs) k y (f k x) at there)

not_ticked : {S : Type 0} (a : Act) (beat : ℕ) (b : Being S) → has_done a beat b ≡ false → b.ticked ≤ beat
not_ticked (act.Get link number) beat b h = grind (arith, nat_tests, h)
not_ticked (act.Tick node) beat b h = grind (arith, nat_tests, h)
not_ticked (act.DieIn final sends) beat b h = grind (arith, nat_tests, h)
not_ticked (act.Return cub) beat b h = grind (arith, nat_tests, h)
not_ticked (act.Die cub) beat b h = by (nat_lt beat b.acted) h
  where
    by : (q : Bool) → q || nat_lt beat b.ticked ≡ false → b.ticked ≤ beat
    by true e = absurd (cc)
    by false e = grind (arith, nat_tests, e)

-- A machine of a plan's nodes, in which an event has no fault.
module _ {M S : Type 0} (stands : S → Params → ℕ → Type 0) (p : Params) (beats : ℕ) (plan : IsPlan p) (few : beats ≤ most_beats) (m : Machine M S)
    (size : length m.beings ≡ nodes_of p) (sound : IsSound stands p m) (e : Event) (known : IsEventOf p (nodes_of p) beats e) where
  place : IsPlace p (nodes_of p) beats
  place = plans-places p beats plan few

  pub within : node_of p e.act < nodes_of p
  within = by e.act known.1
    where
      by : (a : Act) → IsActOf p (nodes_of p) a → node_of p a < nodes_of p
      by (act.Get link number) ends = subst (λ k. k < nodes_of p) (sym (ap receiver ends.2)) (place.linked link.0 ends.0 ends.1 ends.2).1
      by (act.Tick node) low = low
      by (act.Die cub) low = let cubs = place.cubs in omega (arith, low, cubs)
      by (act.DieIn (last.Get link number) sends) ends =
          subst (λ k. k < nodes_of p) (sym (ap receiver ends.2)) (place.linked link.0 ends.0 ends.1 ends.2).1
      by (act.DieIn (last.Tick node) sends) low = let cubs = place.cubs in omega (arith, low, cubs)
      by (act.Return cub) low = let cubs = place.cubs in omega (arith, low, cubs)

  module _ (none : fault_of p m e ≡ None) where
    free : IsFaultless p m e
    free = faultless p m e none

    goes : m.beat ≤ e.stamp.beat
    goes = ⊎_elim (λ (q : e.stamp.beat ≡ m.beat). omega (arith, q)) (λ (q : e.stamp.beat ≡ suc m.beat). omega (arith, q)) free.beat

    linked : (link : LinkNo) (number from to : ℕ) → ends_of (links_of p) link.0 ≡ Some (from, to)
        → get_fault m.ways e.stamp.beat link number ≡ None
        → IsInLink p (receiver (ends_of (links_of p) link.0)) link.0 × HasLink m.ways link.0
    linked link number from to ends untaken =
        let first = take-none m.ways e.stamp.beat link number untaken in (
          (from, subst (λ k. ends_of (links_of p) link.0 ≡ Some (from, k)) (sym (ap receiver ends)) ends),
          record { way = first.way; here = first.here },
        )

    can_take : CanTake p (node_of p e.act) m.ways e.act
    can_take = by e.act known.1 free.take
      where
        by_last : (a : Last) → IsLastOf p a → last_take_fault m.ways e.stamp.beat a ≡ None → CanTakeLast p (node_of_last p a) m.ways a
        by_last (last.Get link number) ends untaken = linked link number ends.0 ends.1 ends.2 untaken
        by_last (last.Tick node) low untaken = tt

        by : (a : Act) → IsActOf p (nodes_of p) a → take_fault m.ways e.stamp.beat a ≡ None → CanTake p (node_of p a) m.ways a
        by (act.Get link number) ends untaken = linked link number ends.0 ends.1 ends.2 untaken
        by (act.Tick node) low untaken = tt
        by (act.Die cub) low untaken = tt
        by (act.DieIn final sends) may untaken = by_last final may untaken
        by (act.Return cub) low untaken = tt

    pub ready : length m.ways ≤ 4000 → IsReady stands (node_of p e.act) e m.beings m.ways
    ready links =
        let n = node_of p e.act in
        let low : n < length m.beings = omega (arith, within, size) in
        let own = get_some m.beings n low in
        let b = own.0 in
        let open_node : IsFree p e b = node-none p n e b (sym (ap (node_fault p n e) own.1) ∙ free.node) in
        let early = known.0 in
        let until = open_node.until in
        let short = place.short e.stamp.beat early in
        record {
          before = b;
          here = own.1;
          ready = record {
            beat = omega (arith, early, few);
            reading = omega (arith, until, short);
            ticked = not_ticked e.act e.stamp.beat b open_node.undone;
            place = record { params = p; number = n; here = sound.stand n b own.1; all = sym sound.links };
            takes = can_take;
            few = links;
            order = λ l w at. (sound.orderly l w at).rising;
          };
        }

    module _ (note : M → Note) (step : S → Input M → Deed M S) (beings : List (Being S)) (ways : List (Way M))
        (moved : HasMoved note step stands p (node_of p e.act) e m.beings beings m.ways ways) where
      abbrev after : Machine M S
      after = record { beat = e.stamp.beat; beings = beings; ways = ways; events = m.events ++ e ∷ [] }

      pub happened_is : after ≡ happens note step p m e
      happened_is =
          let told = moved.lived_in.told in
          let here = moved.here in
          rw (told, here, moved.nodes, moved.lived_in.through.ways) refl

      pub size_after : length beings ≡ nodes_of p
      size_after = ap length moved.nodes ∙ each-length (λ k b. if k == node_of p e.act then lived note step moved.lived_in.event b else b) 0 m.beings ∙ size

      pub sound_after : IsSound stands p after
      sound_after =
          let n = node_of p e.act in
          let x = moved.lived_in.event in
          let through = moved.lived_in.through in
          let f : ℕ → Being S → Being S = λ k b. if k == n then lived note step x b else b in
          let on : ℕ → Way M → Way M = λ l w. gone_on step x moved.old.past l (lost_on p n x l w) in
          record {
            links = ap length through.ways ∙ each-length on 0 m.ways ∙ sound.links;
            stand = λ k b at.
                let was = changed_from f m.beings k b (ap (λ bs. slice_get bs k) (sym moved.nodes) ∙ at) in
                ⊎_elim
                (λ (same : k ≡ n).
                let old_is : was.0 ≡ moved.old = same-element m.beings n was.0 moved.old (ap (slice_get m.beings) (sym same) ∙ was.1) moved.here in
                let t : (k == n) ≡ true = eq-eqb k n same in
                let new_is : b ≡ moved.new = was.2 ∙ ap (λ q. cond q (lived note step x was.0) was.0) t ∙ ap (lived note step x) old_is ∙ sym through.being in
                subst (λ j. stands b.past.state p j) (sym same)
                (subst (λ (c : Being S). stands c.past.state p n) (sym new_is) (through.stays p n (sound.stand n moved.old moved.here))))
                (λ (ne : k ≡ n → ⊥).
                let t : (k == n) ≡ false = ne_eqb k n ne in
                let same_being : b ≡ was.0 = was.2 ∙ ap (λ q. cond q (lived note step x was.0) was.0) t in
                subst (λ (c : Being S). stands c.past.state p k) (sym same_being) (sound.stand k was.0 was.1))
                (cases_eq k n);
            orderly = λ l w at.
                let was = changed_from on m.ways l w (ap (λ ws. slice_get ws l) (sym through.ways) ∙ at) in
                let when : (stamp_at x).beat ≡ e.stamp.beat = ap (λ s. s.beat) moved.lived_in.when in
                subst (IsOrderly e.stamp.beat) (sym was.2)
                (orderly_after step x moved.old.past l m.beat e.stamp.beat (lost_on p n x l was.0) goes when
                (orderly_lost p n x l m.beat was.0 (sound.orderly l was.0 was.1)));
          }
