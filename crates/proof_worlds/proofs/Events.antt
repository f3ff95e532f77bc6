-- What the events of a list that is accepted tell of the nodes to which they happen.
use Rattle.std.proofs.Common.{◌≡◌, ℕ, zero, suc, ◌<◌, ◌≤◌, List, [], ◌∷◌, true, false, Option, Some, None, refl, sym, ap, subst, ◌∙◌, arith, ⊎_elim}
use Rattle.std.specs.Prelude.{slice_get, ◌==◌}
use Rattle.std.specs.List.{AllByRecursion}
use Rattle.std.proofs.lemmas.Bool.{cases_Bool, cases_lt, eqb-true, eq-eqb}
use Rattle.std.proofs.lemmas.Option.{none-some}
use Rattle.tiger_base.specs.declared.number.Stamp.{Stamp}
use Rattle.tiger_base.specs.declared.message.Note.{Note}
use Rattle.slot_plan.specs.declared.params.Params.{Params}
use Rattle.node_kit.specs.Links.{links_of, ends_of}
use Rattle.node_kit.specs.Rows.{each_below}
use Rattle.node_kit.specs.Steps.{Input, Deed}
use Rattle.node_kit.specs.Steps.Input.{Take, Tick}
use Rattle.node_kit.proofs.Rows.{length-each_below, get-each_below, get-below}
use Rattle.run_facts.specs.Events.{NodeEvent, stamp_at}
use Rattle.run_facts.specs.Events.NodeEvent.{Does, Ends, Dies, Returns}
use Rattle.run_facts.specs.Histories.{History}
use Rattle.run_facts.proofs.Rows.{all-append, all-left, all-right, same-element}
use Rattle.ring_world.specs.declared.event.Act.{Act}
use Rattle.ring_world.specs.declared.event.Act.TheVariants as act
use Rattle.ring_world.specs.declared.event.Event.{Event}
use Rattle.ring_world.specs.Machine.{Machine, happens}
use Rattle.ring_world.specs.Faults.{Accepts, IsActOf, IsEventOf}
use Rattle.ring_world.specs.Merging.{Happening, IsMerged, act_of, added, own, told_as, told_from}
use Rattle.ring_world.proofs.Accepting.{some-same}

-- Each event that is accepted is one that may be asked.
pub accepted_events : {M S : Type 0} (note : M → Note) (step : S → Input M → Deed M S) (p : Params) (nodes beats : ℕ)
    (m : Machine M S) (events : List Event) (k : Machine M S) → Accepts note step p nodes beats m events k
    → AllByRecursion (IsEventOf p nodes beats) events
accepted_events note step p nodes beats m [] k a = tt
accepted_events note step p nodes beats m (e ∷ es) k a =
    (a.0, accepted_events note step p nodes beats (happens note step p m e) es k a.2)

-- What a death must be, if the act that it is told as may be asked: of a cub, or at a message on a link to a cub.
abbrev pub MayDie : {M : Type 0} → Params → ℕ → NodeEvent M → Type 0
MayDie p n (Ends (Take stamp link msg) sends) =
    (from : ℕ) × (to : ℕ) × (ends_of (links_of p) link.0 ≡ Some (from, to)) × (to < p.cubs)
MayDie p n (Ends (Tick stamp) sends) = n < p.cubs
MayDie p n (Dies stamp) = n < p.cubs
MayDie p n other = Unit {0}

may_die : {M : Type 0} (p : Params) (nodes : ℕ) (lost : ℕ → ℕ) (es : List (NodeEvent M)) (n : ℕ) (x : NodeEvent M)
    → IsActOf p nodes (act_of lost es n x) → MayDie p n x
may_die p nodes lost es n (Ends (Take stamp link msg) sends) is = is
may_die p nodes lost es n (Ends (Tick stamp) sends) is = is
may_die p nodes lost es n (Dies stamp) is = is
may_die p nodes lost es n (Does input) is = tt
may_die p nodes lost es n (Returns stamp) is = tt

-- What all that is told gives of what happens to a node, it gives of all of that.
each_own : {M : Type 0} (Told : Event → Type 0) (P : NodeEvent M → Type 0) (n : ℕ) (lost : ℕ → ℕ)
    → ((es : List (NodeEvent M)) (x : NodeEvent M)
    → Told (record { stamp = stamp_at x; act = act_of lost es n x }) → P x)
    → (es : ℕ → List (NodeEvent M)) (xs : List (Happening M)) → AllByRecursion Told (told_from lost es xs)
    → AllByRecursion P (own n xs)
each_own Told P n lost gives es [] all = tt
each_own {M} Told P n lost gives es (x ∷ xs) all =
    let rest = each_own Told P n lost gives (added x.node x.event es) xs all.1 in
    ⊎_elim
    (λ (t : (x.node == n) ≡ true).
    let told : Told (record { stamp = stamp_at x.event; act = act_of lost (es x.node) n x.event }) =
    subst (λ (k : ℕ). Told (record { stamp = stamp_at x.event; act = act_of lost (es x.node) k x.event })) (eqb-true _ _ t) all.0 in
    rw t (gives (es x.node) x.event told, rest))
    (λ (f : (x.node == n) ≡ false). rw f rest)
    (cases_Bool (x.node == n))

-- The node that an act lets tick.
abbrev ticking : Act → Option ℕ
ticking (act.Get link number) = None
ticking (act.Tick node) = Some node.0
ticking (act.Die cub) = None
ticking (act.DieIn final sends) = None
ticking (act.Return cub) = None

-- The event that node n ticks.
abbrev pub tick_event : Stamp → ℕ → Event
tick_event stamp n = record { stamp = stamp; act = act.Tick (record { 0 = n }) }

-- A tick that is told is one of its node's events.
told_tick : {M : Type 0} (lost : ℕ → ℕ) (es : List (NodeEvent M)) (x : Happening M) (stamp : Stamp) (n : ℕ)
    → told_as lost es x ≡ tick_event stamp n → (x.node ≡ n) × (x.event ≡ Does (Tick stamp))
told_tick {M} lost es x stamp n told = by x.event refl
  where
    named : (y : NodeEvent M) → x.event ≡ y → ticking (act_of lost es x.node y) ≡ Some n
    named y e = ap (λ z. ticking (act_of lost es x.node z)) (sym e) ∙ ap (λ (v : Event). ticking v.act) told

    by : (y : NodeEvent M) → x.event ≡ y → (x.node ≡ n) × (x.event ≡ Does (Tick stamp))
    by (Does (Take s link msg)) e = absurd (none-some n (named (Does (Take s link msg)) e))
    by (Does (Tick s)) e =
        let at : s ≡ stamp = ap stamp_at (sym e) ∙ ap (λ (v : Event). v.stamp) told in
        (some-same x.node n (named (Does (Tick s)) e), e ∙ ap (λ (z : Stamp). Does (Tick z)) at)
    by (Ends i sends) e = absurd (none-some n (named (Ends i sends) e))
    by (Dies s) e = absurd (none-some n (named (Dies s) e))
    by (Returns s) e = absurd (none-some n (named (Returns s) e))

tick_own : {M : Type 0} (lost : ℕ → ℕ) (stamp : Stamp) (n : ℕ) (es : ℕ → List (NodeEvent M)) (xs : List (Happening M)) (k : ℕ)
    → slice_get (told_from lost es xs) k ≡ Some (tick_event stamp n) → (j : ℕ) × (slice_get (own n xs) j ≡ Some (Does (Tick stamp)))
tick_own lost stamp n es [] k at = absurd (none-some (tick_event stamp n) at)
tick_own {M} lost stamp n es (x ∷ xs) zero at =
    let told = told_tick lost (es x.node) x stamp n (some-same (told_as lost (es x.node) x) (tick_event stamp n) at) in
    let t : (x.node == n) ≡ true = eq-eqb x.node n told.0 in
    (0, rw t (ap (λ (y : NodeEvent M). Some y) told.1))
tick_own {M} lost stamp n es (x ∷ xs) (suc k) at =
    let rest = tick_own lost stamp n (added x.node x.event es) xs k at in
    ⊎_elim
    (λ (t : (x.node == n) ≡ true). (suc rest.0, rw t rest.1))
    (λ (f : (x.node == n) ≡ false). (rest.0, rw f rest.1))
    (cases_Bool (x.node == n))

-- What holds of all that a rule gives below a number holds of each.
all_below : {X : Type 0} (P : X → Type 0) (f : ℕ → X) (n k : ℕ) → k < n → AllByRecursion P (each_below f n) → P (f k)
all_below P f zero k low all = absurd (omega (arith, low))
all_below P f (suc n) k low all = ⊎_elim
    (λ (less : k < n). all_below P f n k less (all-left P (each_below f n) (f n ∷ []) all))
    (λ (last : n ≤ k).
    let same : n ≡ k = omega (arith, low, last) in
    subst (λ j. P (f j)) same (all-right P (each_below f n) (f n ∷ []) all).0)
    (cases_lt k n)

-- And back.
pub all_each : {X : Type 0} (P : X → Type 0) (f : ℕ → X) (n : ℕ) → ((k : ℕ) → k < n → P (f k))
    → AllByRecursion P (each_below f n)
all_each P f zero each = tt
all_each P f (suc n) each =
    all-append P (each_below f n) (f n ∷ []) (all_each P f n (λ k low. each k (omega (arith, low))))
    (each n (omega arith), tt)

-- In the history of a list that is accepted deaths are of cubs, nobody returns if nobody does in the list, and each tick of
-- the list is its node's.
module _ {M S : Type 0} (p : Params) (nodes beats : ℕ) (h : History M S) (events : List Event)
    (merged : IsMerged h nodes events) where
  -- What each event of the list gives of the event that it tells, it gives of all events of a node.
  of_each : (Told : Event → Type 0) (P : NodeEvent M → Type 0) → (n : ℕ)
      → ((es : List (NodeEvent M)) (x : NodeEvent M)
      → Told (record { stamp = stamp_at x; act = act_of h.before es n x }) → P x)
      → AllByRecursion Told events → (i : ℕ) → n < nodes → i < h.count n → P (h.event n i)
  of_each Told P n gives all i inside low =
      all_below P (h.event n) (h.count n) i low
      (subst (AllByRecursion P) (merged.each n inside)
      (each_own Told P n h.before gives (λ _. []) merged.merged (subst (AllByRecursion Told) merged.told all)))

  pub dies_as : AllByRecursion (IsEventOf p nodes beats) events
      → (n i : ℕ) → n < nodes → i < h.count n → MayDie p n (h.event n i)
  dies_as all n i inside low =
      of_each (IsEventOf p nodes beats) (MayDie p n) n (λ es x told. may_die p nodes h.before es n x told.1) all i inside low

  pub tick_happened : (stamp : Stamp) (n k : ℕ) → n < nodes
      → slice_get events k ≡ Some (tick_event stamp n)
      → (i : ℕ) × (i < h.count n) × (h.event n i ≡ Does (Tick stamp))
  tick_happened stamp n k inside at =
      let mine = tick_own h.before stamp n (λ _. []) merged.merged k (ap (λ es. slice_get es k) (sym merged.told) ∙ at) in
      let there : slice_get (each_below (h.event n) (h.count n)) mine.0 ≡ Some (Does (Tick stamp)) =
      ap (λ ys. slice_get ys mine.0) (sym (merged.each n inside)) ∙ mine.1 in
      let low : mine.0 < h.count n = omega (arith, get-below _ mine.0 _ there, length-each_below (h.event n) (h.count n)) in
      (mine.0, low, same-element _ mine.0 _ _ (get-each_below (h.event n) (h.count n) mine.0 low) there)
