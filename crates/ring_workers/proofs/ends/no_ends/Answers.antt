use Rattle.std.proofs.Common.{arith, ap, length}
use Rattle.ring_workers.proofs.Places.{none-there, none-pushed}
use Rattle.ring_workers.proofs.ends.no_ends.Goals as goal

pub loop-link-init : goal.loop-link-init
loop-link-init g c = record { none = none-there _ c.new-ends.ensures.items; size = ap length c.new-ends.ensures.items }

pub loop-link-preserved : goal.loop-link-preserved
loop-link-preserved g c = record {
  none = none-pushed c.loop-link.ends.items _ c.in_ok-push.ensures.items c.loop-link.invariant.none;
  size = omega (arith, c.in_ok-push.ensures.len, c.loop-link.invariant.size);
}
