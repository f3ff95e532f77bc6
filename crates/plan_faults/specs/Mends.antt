-- That the numbers which are named mend their conditions.
use Rattle.std.specs.Prelude.{◌≡◌, ℕ, ◌-◌, ◌≤◌, ◌↔◌, true, false, List, [], ◌∷◌, get_or}
use Rattle.slot_plan.specs.declared.params.Params.{Params}
use Rattle.slot_plan.specs.Conditions.{Test, tests}
use Rattle.plan_faults.specs.declared.condition.Condition.{Condition}
use Rattle.plan_faults.specs.Fields.{with_number}

-- of the tests, numbered from one on, that of this number is there and holds
abbrev pub HoldsAt : ℕ → List Test → Type 0
HoldsAt number ts = (get_or ts (number - 1) (false, 0, 0)).0 ≡ true

-- with another value of its number, and the others as they are, a condition holds exactly if that is its least or more
abbrev pub IsMended : Params → Condition → Type 0
IsMended p c = (n : ℕ) → HoldsAt c.number (tests (with_number c.field n p)) ↔ (c.least ≤ n)

abbrev pub AreMended : Params → List Condition → Type 0
AreMended p [] = Unit {0}
AreMended p (c ∷ cs) = IsMended p c × AreMended p cs
