use Rattle.std.proofs.Common.{◌≡◌, ℕ, take}
use Rattle.std.specs.List.{list_any}
use Rattle.audit_frame.specs.Tables.{has_pair}
use Rattle.audit_waits.specs.Starts.{begins_on}
use Rattle.audit_waits.proofs.starts.disks_of.Given as goal

-- the table has the disks of the orders so far
abbrev pub invariant-loop-order : goal.invariant-loop-order
invariant-loop-order l = record {
  has : (v disk : ℕ) → has_pair v disk l.disks ≡ list_any (λ o. begins_on v disk o.what) (take l.order-index l.orders);
}
