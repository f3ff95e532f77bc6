use Rattle.ring_workers.proofs.Opening.{opened-none, opened-more}
use Rattle.ring_workers.proofs.ends.in_rows.Goals as goal

pub loop-link-init : goal.loop-link-init
loop-link-init g c = record { rows = opened-none _ _ c.new-outs.ensures.items c.new-ins.ensures.items; left = c.requires }

pub loop-link-preserved : goal.loop-link-preserved
loop-link-preserved g c = record {
  rows = opened-more c.loop-link.outs.items _ c.loop-link.ins.items _ _ _ c.in_ok-push.ensures.items c.in_ok-push-2.ensures.items c.loop-link.invariant.rows c.in_ok-out.ensures.ends;
  left = c.in_ok-out.ensures.left;
}
