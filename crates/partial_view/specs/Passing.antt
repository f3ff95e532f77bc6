-- Between which times no line is due for which something is left to do.
use Rattle.std.specs.Prelude.{◌≡◌, ℕ, ◌≤◌, Bool, true, List}
use Rattle.std.specs.List.{AllByRecursion}
use Rattle.slot_plan.specs.declared.params.Params.{Params}
use Rattle.slot_plan.specs.Keys.{due_of}
use Rattle.partial_view.specs.declared.line.Line.{Line}
use Rattle.partial_view.specs.Lines.{key_of}

-- no line that passes a test is due at one time or later, and before another
abbrev pub NonePasses : Params → (Line → Bool) → ℕ → ℕ → List Line → Type 0
NonePasses p test from to lines =
    AllByRecursion
    (λ x. test x ≡ true → from ≤ due_of p (key_of x) → to ≤ due_of p (key_of x)) lines
