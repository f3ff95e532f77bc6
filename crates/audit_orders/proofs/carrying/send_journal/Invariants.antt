use Rattle.std.proofs.Common.{◌++◌, List, take}
use Rattle.node_kit.specs.declared.journal.Entry.{Entry}
use Rattle.audit_orders.specs.Carrying.{TellsPost, TellsSent}
use Rattle.audit_orders.proofs.carrying.send_journal.Given as goal

-- the tables have the messages of the entries so far too
abbrev pub invariant-loop-i : goal.invariant-loop-i
invariant-loop-i l = record {
  post : (front : List Entry) → TellsPost l.course l.fn.post front → TellsSent l.course l.fn.counts front
      → TellsPost l.course l.post (front ++ take l.i l.journal);
  counts : (front : List Entry) → TellsPost l.course l.fn.post front → TellsSent l.course l.fn.counts front
      → TellsSent l.course l.counts (front ++ take l.i l.journal);
}
