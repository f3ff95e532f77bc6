use Rattle.std.proofs.Common.{take}
use Rattle.audit_orders.specs.Carrying.{all_entries, TellsPost, TellsSent}
use Rattle.audit_orders.proofs.carrying.send_all.Given as goal

-- the tables have the messages of the journals so far
abbrev pub invariant-loop-n : goal.invariant-loop-n
invariant-loop-n l = record {
  post : TellsPost l.course l.post (all_entries (take l.n l.journals));
  counts : TellsSent l.course l.counts (all_entries (take l.n l.journals));
}
