use Rattle.std.proofs.Common.{ℕ, IsTrue, take, true, get_or}
use Rattle.std.specs.List.{list_any}
use Rattle.audit_waits.specs.Starts.{begins_at}
use Rattle.audit_waits.proofs.starts.asked_by.Given as goal

-- the row marks the disks of the orders so far
abbrev pub invariant-loop-order : goal.invariant-loop-order
invariant-loop-order l = record {
  marks : (disk : ℕ) → IsTrue (list_any (λ o. begins_at disk o.what) (take l.order-index l.orders)) → IsTrue (get_or l.asked.items disk true);
}
