use Rattle.audit_orders.specs.Timing.{AreTimedBelow}
use Rattle.audit_orders.proofs.timing.first_flaw.Given as goal

-- the journals so far are timed
abbrev pub invariant-loop-n : goal.invariant-loop-n
invariant-loop-n l = record { lower : AreTimedBelow l.course l.n l.journals }
