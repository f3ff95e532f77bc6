use Rattle.std.proofs.Common.{ℕ, List, ap}
use Rattle.audit_frame.specs.Tables.{has_pair}
use Rattle.audit_waits.proofs.Ordered.{disks_next, disks_end}
use Rattle.audit_waits.proofs.starts.disks_of.Goals as goal

pub loop-order-init : goal.loop-order-init
loop-order-init c = record { has = λ v disk. ap (λ (rows : List (ℕ × ℕ)). has_pair v disk rows) c.new-disks.ensures }

pub loop-order-preserved : goal.loop-order-preserved
loop-order-preserved c = record {
  has = λ v disk. disks_next c.loop-order.order-index c.args.orders.now _ v disk _ _ c.loop-order-test.true (c.in_ok-add_disk.ensures v disk)
      (c.loop-order.invariant.has v disk);
}

pub returns : goal.returns
returns c = disks_end c.loop-order.order-index c.args.orders.now _ c.loop-order-test.false c.loop-order.invariant.has
