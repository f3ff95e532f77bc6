-- What a walk keeps of the deaths that it has passed.
use Rattle.std.specs.Prelude.{◌≡◌, ℕ, List}
use Rattle.run_model.specs.Moments.{Moment}
use Rattle.audit_frame.specs.Tables.{has_number}

-- a set has exactly the nodes that died
abbrev pub TellsDead : List ℕ → Moment → Type 0
TellsDead dead m = (n : ℕ) → m.dead n ≡ has_number n dead
