-- Numbers in their ranges of which no condition is false are a plan.
use Rattle.std.proofs.Common.{◌≡◌, ℕ, ◌+◌, Bool, true, false, cond, List, [], ◌∷◌, Option, Some, None, refl}
use Rattle.std.proofs.lemmas.Bool.{ltb-true, leb-true}
use Rattle.slot_plan.specs.declared.params.Params.{Params}
use Rattle.slot_plan.specs.declared.params.PlanFault.{PlanFault}
use Rattle.slot_plan.specs.Conditions.{IsInRange, IsPlan, Test, tests, first_false, plan_fault}

abbrev AllHold : List Test → Type 0
AllHold [] = Unit {0}
AllHold (t ∷ ts) = (t.0 ≡ true) × AllHold ts

first_holds : (t : Bool) (rest : Option PlanFault) (fault : PlanFault) → cond t rest (Some fault) ≡ None → (t ≡ true) × (rest ≡ None)
first_holds true rest fault e = (refl, e)
first_holds false rest fault e = cc

all_hold : (n : ℕ) (ts : List Test) → first_false n ts ≡ None → AllHold ts
all_hold n [] e = tt
all_hold n (t ∷ ts) e =
    let h = first_holds t.0 (first_false (n + 1) ts) (record { condition = n; left = t.1; right = t.2 }) e in
    (h.0, all_hold (n + 1) ts h.1)

pub IsPlan-from : (p : Params) → IsInRange p → plan_fault p ≡ None → IsPlan p
unfolding plan_fault
IsPlan-from p ranges e =
    let h = all_hold 1 (tests p) e in
    let from_5 = h.1.1.1.1 in
    let from_9 = from_5.1.1.1.1 in
    record {
      ranges = ranges;
      c1 = ltb-true _ _ h.0;
      c2 = leb-true _ _ h.1.0;
      c3 = leb-true _ _ h.1.1.0;
      c4 = leb-true _ _ h.1.1.1.0;
      c5 = leb-true _ _ from_5.0;
      c6 = leb-true _ _ from_5.1.0;
      c7 = leb-true _ _ from_5.1.1.0;
      c8 = leb-true _ _ from_5.1.1.1.0;
      c9 = leb-true _ _ from_9.0;
      c10 = leb-true _ _ from_9.1.0;
      c11 = leb-true _ _ from_9.1.1.0;
      c12 = leb-true _ _ from_9.1.1.1.0;
    }
