use Rattle.std.proofs.Common.{◌∙◌, ap, arith, length}
use Rattle.ring_workers.proofs.Places.{empty-open, empty-pushed}
use Rattle.ring_workers.proofs.rows.empty_rows.Goals as goal

pub loop-member-init : goal.loop-member-init
loop-member-init g c = record { none = empty-open _ c.new-rows.ensures.items; size = ap length c.new-rows.ensures.items }

pub loop-member-preserved : goal.loop-member-preserved
loop-member-preserved g c = record {
  none = empty-pushed c.loop-member.rows.items _ _ c.in_ok-push.ensures.items (c.new-in-loop-member.ensures ∙ c.new.ensures.items) c.loop-member.invariant.none;
  size = omega (arith, c.in_ok-push.ensures.len, c.loop-member.invariant.size);
}
