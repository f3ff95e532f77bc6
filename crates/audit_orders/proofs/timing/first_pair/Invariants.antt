use Rattle.std.proofs.Common.{ℕ, ◌<◌}
use Rattle.audit_orders.specs.Timing.{OneLives}
use Rattle.audit_orders.proofs.timing.first_pair.Given as goal

-- of the cubs so far each or the next one lives on
abbrev pub invariant-loop-n : goal.invariant-loop-n
invariant-loop-n l = record { lower : (m : ℕ) → m < l.n → OneLives l.course m }
