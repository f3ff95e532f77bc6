use Rattle.std.proofs.Common.{arith}
use Rattle.cub_tick.proofs.Splits.{sent_more, sent_all}
use Rattle.cub_tick.proofs.splitting.send_pieces.Goals as goal

pub loop-k-preserved : goal.loop-k-preserved
loop-k-preserved c =
    (omega (arith, c.loop-k.invariant.0), sent_more c.args.site.now.plan.params c.args.site.now.cub.0 c.args.rec c.loop-k.k c.args.out.now c.loop-k.out _ c.loop-k.invariant.0 c.loop-k.invariant.1 c.in_ok-send_ahead.ensures)

pub returns : goal.returns
returns c = sent_all c.args.site.now.plan.params c.args.site.now.cub.0 c.args.rec c.loop-k.k c.args.out.now c.loop-k.out c.args.site.now.plan.sound.ranges.pieces.0 (omega (arith, c.loop-k-test.false, c.loop-k.auto.k-end)) c.loop-k.invariant.1
