use Rattle.audit_orders.proofs.Following.{OthersSoFar}
use Rattle.audit_orders.proofs.foreign.foreign_stop.Given as goal

-- of the journals so far those of other nodes stop none
abbrev pub invariant-loop-n : goal.invariant-loop-n
invariant-loop-n l = record { lower : OthersSoFar l.controller.0 l.n l.journals }
