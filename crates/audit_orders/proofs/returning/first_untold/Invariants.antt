use Rattle.audit_orders.specs.Returning.{TellReturnsBelow}
use Rattle.audit_orders.proofs.returning.first_untold.Given as goal

-- the journals so far tell their returns
abbrev pub invariant-loop-n : goal.invariant-loop-n
invariant-loop-n l = record { lower : TellReturnsBelow l.course l.n l.journals }
