use Rattle.std.proofs.Common.{◌++◌, List, take}
use Rattle.node_kit.specs.declared.journal.Entry.{Entry}
use Rattle.audit_orders.specs.Carrying.{TellsSent, NoneIsLost}
use Rattle.audit_orders.proofs.carrying.lost_in.Given as goal

-- of what the entries so far sent nothing is lost that may not be
abbrev pub invariant-loop-i : goal.invariant-loop-i
invariant-loop-i l = record {
  sent : (front : List Entry) → TellsSent l.course l.fn.sent front → TellsSent l.course l.sent (front ++ take l.i l.journal);
  none : (front : List Entry) → TellsSent l.course l.fn.sent front → NoneIsLost l.course l.got front
      → NoneIsLost l.course l.got (front ++ take l.i l.journal);
}
