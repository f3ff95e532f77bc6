use Rattle.std.proofs.Common.{take}
use Rattle.audit_orders.specs.Carrying.{all_entries, TellsSent, NoneIsLost}
use Rattle.audit_orders.proofs.carrying.first_lost.Given as goal

-- of what the journals so far sent nothing is lost that may not be
abbrev pub invariant-loop-n : goal.invariant-loop-n
invariant-loop-n l = record {
  sent : TellsSent l.course l.sent (all_entries (take l.n l.journals));
  none : NoneIsLost l.course l.got (all_entries (take l.n l.journals));
}
