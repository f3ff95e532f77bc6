-- That the first false condition is the one that a plan's refusal names, and that a plan has none.
use Rattle.std.proofs.Common.{◌≡◌, ℕ, ◌+◌, ◌≤◌, Bool, true, false, cond, not, List, [], ◌∷◌, length, filter, Option, Some, refl, sym, ap, ◌∙◌, arith}
use Rattle.std.proofs.lemmas.Bool.{lt-ltb, le-leb}
use Rattle.slot_plan.specs.declared.params.Params.{Params}
use Rattle.slot_plan.specs.declared.params.PlanFault.{PlanFault}
use Rattle.slot_plan.specs.Conditions.{IsInRange, IsPlan, Test, tests, first_false, plan_fault}
use Rattle.slot_plan.proofs.Conditions.{IsPlan-from}
use Rattle.plan_faults.specs.declared.condition.PlanField.{PlanField}
use Rattle.plan_faults.specs.declared.condition.Condition.{Condition}
use Rattle.plan_faults.specs.Faults.{bounds, numbered_tests, conditions, false_conditions, first_fault}

abbrev of_test : ℕ → Bool → ℕ → ℕ → PlanField × ℕ → Condition
of_test n holds left right b = record { number = n; holds = holds; left = left; right = right; field = b.0; least = b.1 }

-- a condition that holds is not the first false one, and one that does not hold is
first_step : (holds : Bool) (n left right : ℕ) (b : PlanField × ℕ) (rest : List Condition) (o : Option PlanFault) → first_fault rest ≡ o
    → first_fault (cond (not holds) (of_test n holds left right b ∷ rest) rest) ≡ cond holds o (Some (record { condition = n; left = left; right = right }))
first_step true n left right b rest o e = e
first_step false n left right b rest o e = refl

first_same : (n : ℕ) (ts : List Test) (bs : List (PlanField × ℕ)) → length ts ≤ length bs
    → first_fault (filter (λ c. not c.holds) (numbered_tests n ts bs)) ≡ first_false n ts
first_same n [] bs few = refl
first_same n (t ∷ ts) [] few = absurd (omega (arith, few))
first_same n (t ∷ ts) (b ∷ bs) few =
    first_step t.0 n t.1 t.2 b (filter (λ c. not c.holds) (numbered_tests (n + 1) ts bs)) (first_false (n + 1) ts)
    (first_same (n + 1) ts bs (omega (arith, few)))

-- the first false condition is the one that is named
pub first_named : (p : Params) → first_fault (false_conditions p) ≡ plan_fault p
unfolding conditions plan_fault
first_named p = first_same 1 (tests p) (bounds p) (omega arith)

-- all tests pass
abbrev AllHold : List Test → Type 0
AllHold [] = Unit {0}
AllHold (t ∷ ts) = (t.0 ≡ true) × AllHold ts

none_false : (n : ℕ) (ts : List Test) (bs : List (PlanField × ℕ)) → AllHold ts → filter (λ c. not c.holds) (numbered_tests n ts bs) ≡ []
none_false n [] bs all = refl
none_false n (t ∷ ts) [] all = refl
none_false n (t ∷ ts) (b ∷ bs) all = rw all.0 (none_false (n + 1) ts bs all.1)

all_hold : (p : Params) → IsPlan p → AllHold (tests p)
all_hold p h = (
  lt-ltb _ _ h.c1,
  (
    le-leb _ _ h.c2,
    (
      le-leb _ _ h.c3,
      (
        le-leb _ _ h.c4,
        (
          le-leb _ _ h.c5,
          (
            le-leb _ _ h.c6,
            (le-leb _ _ h.c7, (le-leb _ _ h.c8, (le-leb _ _ h.c9, (le-leb _ _ h.c10, (le-leb _ _ h.c11, (le-leb _ _ h.c12, tt)))))),
          ),
        ),
      ),
    ),
  ),
)

pub none_of_plan : (p : Params) → IsPlan p → false_conditions p ≡ []
unfolding conditions
none_of_plan p h = none_false 1 (tests p) (bounds p) (all_hold p h)

-- and numbers in their ranges of which no condition is false are a plan
pub plan_of_none : (p : Params) → IsInRange p → false_conditions p ≡ [] → IsPlan p
plan_of_none p ranges none = IsPlan-from p ranges (sym (first_named p) ∙ ap first_fault none)
