use Rattle.std.proofs.Common.{◌++◌, List, take}
use Rattle.node_kit.specs.declared.journal.Entry.{Entry}
use Rattle.audit_orders.specs.Carrying.{TellsPost, TellsGot}
use Rattle.audit_orders.proofs.carrying.get_journal.Given as goal

-- what the entries so far got is the first of what all sent
abbrev pub invariant-loop-i : goal.invariant-loop-i
invariant-loop-i l = record {
  got : (all front : List Entry) → TellsPost l.course l.post all → TellsGot l.course all l.fn.got front
      → TellsGot l.course all l.got (front ++ take l.i l.journal);
}
