-- Where a cub stands to a visit, and what it may take from there.
use Rattle.std.proofs.Common.{◌≡◌, ℕ, ◌+◌, ◌*◌, ◌<◌, ◌≤◌, ◌==◌, nat_lt, true, false, cond, find, Bool, List, [], ◌∷◌, Option, Some, None, IfSome, IsTrue, refl, arith, subst, sym}
use Rattle.std.specs.List.{AllByRecursion}
use Rattle.std.proofs.lemmas.Bool.{both_ways, cond_both, ltb-true, leb-true, eqb-true, eq-eqb}
use Rattle.tiger_base.specs.declared.number.Instance.{Instance}
use Rattle.tiger_base.specs.declared.number.SlotNo.{SlotNo}
use Rattle.tiger_base.specs.declared.number.Stamp.{Stamp}
use Rattle.tiger_base.specs.declared.tenancy.Kind.TheVariants.{Own}
use Rattle.tiger_base.specs.declared.tenancy.Rec.{Rec}
use Rattle.tiger_base.specs.declared.tenancy.State.{State}
use Rattle.tiger_base.specs.declared.tenancy.Tag.{Tag}
use Rattle.tiger_base.specs.Limits.{most_reading}
use Rattle.slot_plan.specs.declared.params.Params.{Params}
use Rattle.slot_plan.specs.Conditions.{IsPlan}
use Rattle.slot_plan.specs.Times.{cub_of}
use Rattle.slot_plan.specs.Keys.{Key}
use Rattle.node_kit.specs.Form.{is_tenancy, is_tag}
use Rattle.partial_view.specs.declared.line.Line.{Line}
use Rattle.partial_view.specs.Lines.{is_of}
use Rattle.partial_view.specs.Views.{first_of}
use Rattle.cub_rules.specs.State.{IsRecordOf, IsLineOf}
use Rattle.cub_rules.specs.Messages.{position_at, records_told, position, position_by, is_reached}
use Rattle.cub_changes.proofs.Numbers.{tenancy_parts, place_parts, visit_small}

-- the cub cares for the visit of the key, which is the visit of a slot or the one behind it
pub record StandsAt (p : Params) (c : ℕ) (slot : SlotNo) (visit : ℕ) (k : Key) : Type 0 where
  pub slot_same : k.0 ≡ slot
  pub here : cub_of p k.1 ≡ c
  pub other : (k.1 == visit) ≡ false → k.1 ≡ visit + 1

pub stands_at : (p : Params) (c : ℕ) (slot : SlotNo) (visit : ℕ) → IfSome (position_at p c slot visit) (StandsAt p c slot visit)
unfolding position_at
stands_at p c slot visit =
    let If : Option Key → Type 0 = λ o. IfSome o (StandsAt p c slot visit) in
    let next : Option Key = cond (cub_of p (visit + 1) == c) (Some (slot, visit + 1)) None in
    cond_both (cub_of p visit == c) (Some (slot, visit)) next If
    (λ e. record { slot_same = refl; here = eqb-true _ _ e; other = λ f. absurd (both_ways (visit == visit) f (eq-eqb visit visit refl)) })
    (λ _.
    cond_both (cub_of p (visit + 1) == c) (Some (slot, visit + 1)) None If
    (λ e. record { slot_same = refl; here = eqb-true _ _ e; other = λ _. refl }) (λ _. tt))

pub stands : (p : Params) (c : ℕ) (slot : SlotNo) (visit : ℕ) (k : Key) → position_at p c slot visit ≡ Some k → StandsAt p c slot visit k
stands p c slot visit k e = subst (λ (o : Option Key). IfSome o (StandsAt p c slot visit)) e (stands_at p c slot visit)

-- the records that a state in form tells are of the cub
pub told_records : (p : Params) (c : ℕ) (s : State) (k : Key) → IsTrue (is_tenancy p s.tenancy) → s.tenancy.first ≤ s.visit → s.visit ≤ s.tenancy.last
    → StandsAt p c s.tenancy.slot s.visit k → AllByRecursion (IsRecordOf p c) (records_told s k)
told_records p c s k form low high at =
    let own : ℕ → Rec = λ visit. record { tenancy = s.tenancy; visit = visit; kind = Own } in
    let Of : List Rec → Type 0 = AllByRecursion (IsRecordOf p c) in
    cond_both (k.1 == s.visit) (own s.visit ∷ []) _ Of
    (λ e. (record { in_form = form; begun = low; not_over = high; here = subst (λ (n : ℕ). cub_of p n ≡ c) (eqb-true _ _ e) at.here }, tt))
    (λ e.
    let next : cub_of p (s.visit + 1) ≡ c = subst (λ (n : ℕ). cub_of p n ≡ c) (at.other e) at.here in (
      record { in_form = form; begun = low; not_over = high; here = next },
      cond_both (nat_lt s.visit s.tenancy.last) (own (s.visit + 1) ∷ []) [] Of
          (λ l. (record { in_form = form; begun = omega arith; not_over = (let more = ltb-true _ _ l in omega arith); here = next }, tt)) (λ _. tt),
    ))

-- a position in the plan
abbrev pub IsInPlan : Params → Key → Type 0
IsInPlan p k = k.0.0 < p.slots

pub in_plan : (p : Params) (c : ℕ) (slot : SlotNo) (visit : ℕ) → slot.0 < p.slots → IfSome (position_at p c slot visit) (IsInPlan p)
in_plan p c slot visit inside = from (position_at p c slot visit) (stands_at p c slot visit)
  where
    from : (o : Option Key) → IfSome o (StandsAt p c slot visit) → IfSome o (IsInPlan p)
    from None at = tt
    from (Some k) at = subst (λ (s : SlotNo). s.0 < p.slots) (sym at.slot_same) inside

-- what is found has what every element has
found_has : {X : Type 0} (P : X → Type 0) (test : X → Bool) (xs : List X) → AllByRecursion P xs → IfSome (find test xs) P
found_has P test [] h = tt
found_has P test (x ∷ xs) h =
    cond_both (test x) (Some x) (find test xs) (λ o. IfSome o P) (λ _. h.0) (λ _. found_has P test xs h.1)

of_line : (p : Params) (c : ℕ) (o : Option Line) → IfSome o (IsLineOf p c) → IfSome (position_by o) (IsInPlan p)
of_line p c None own = tt
of_line p c (Some x) own = (tenancy_parts p x.rec.tenancy own.in_form).0

-- if a deschedule in form finds a position, it is in the plan
pub position_in_plan : (p : Params) (c : ℕ) (v : Instance) (tag : Option Tag) (some : List Line) → IsTrue (is_tag p tag) → AllByRecursion (IsLineOf p c) some
    → IfSome (position p c v tag some) (IsInPlan p)
unfolding first_of
position_in_plan p c v (Some tag) some form own = in_plan p c tag.slot tag.visit (place_parts p tag.slot.0 tag.visit form).0
position_in_plan p c v None some form own = of_line p c (first_of v some) (found_has (IsLineOf p c) (is_of v) some own)

-- the visit that a deschedule is passed on to is small
pub reached_small : (p : Params) (stamp : Stamp) (slot : SlotNo) (visit : ℕ) → IsPlan p → stamp.reading ≤ most_reading → is_reached p stamp slot visit ≡ true
    → visit ≤ 102000000
unfolding is_reached
reached_small p stamp slot visit plan short e =
    visit_small p slot.0 visit (stamp.reading + p.max_lead + 2 * p.play + p.skew) plan.ranges (leb-true _ _ e)
    (omega (arith, plan.ranges.max_lead, plan.ranges.play, plan.ranges.skew))
