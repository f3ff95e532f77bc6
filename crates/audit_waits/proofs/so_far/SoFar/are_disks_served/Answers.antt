use Rattle.std.proofs.Common.{refl, arith}
use Rattle.audit_waits.proofs.Judged.{disk_inside, disk_missed, disk_served}
use Rattle.audit_waits.proofs.so_far.SoFar.are_disks_served.Goals as goal

pub loop-k-init : goal.loop-k-init
loop-k-init c = record { marks = c.requires.marks; served = λ orders m tells k low. absurd (omega (arith, low)) }

pub returns-then-not-is_disk_served-clause-served : goal.returns-then-not-is_disk_served-clause-served
returns-then-not-is_disk_served-clause-served c = λ orders m tells.
    disk_missed c.args.plan.now.params c.args.self.now m c.args.tick.cub.0 c.args.tick.beat c.args.tick.reading c.args.redundant c.args.cub.0
    c.loop-k.k c.disk_at-disk.result.0 _ c.loop-k-test.true c.disk_at-disk.ensures c.if-not-is_disk_served.true
    (c.is_disk_served.ensures.served orders m tells)

pub loop-k-preserved : goal.loop-k-preserved
loop-k-preserved c = record {
  marks = c.is_disk_served.ensures.marks;
  served = λ orders m tells.
      disk_served c.args.plan.now.params c.args.self.now m c.args.tick.cub.0 c.args.tick.beat c.args.tick.reading c.args.redundant c.args.cub.0
      c.loop-k.k c.disk_at-disk.result.0 _ c.disk_at-disk.ensures c.if-not-is_disk_served.false
      (c.is_disk_served.ensures.served orders m tells) (c.loop-k.invariant.served orders m tells);
}

pub returns-clause-served : goal.returns-clause-served
returns-clause-served c = λ orders m tells. (
  (λ t k low. c.loop-k.invariant.served orders m tells k (omega (arith, low, c.loop-k-test.false))),
  (λ all. refl),
)

pub is_disk_served-requires-clause-disk : goal.is_disk_served-requires-clause-disk
is_disk_served-requires-clause-disk c =
    disk_inside c.args.plan.now.params c.args.cub.0 c.loop-k.k c.disk_at-disk.result.0 c.requires.cub c.loop-k-test.true c.disk_at-disk.ensures
