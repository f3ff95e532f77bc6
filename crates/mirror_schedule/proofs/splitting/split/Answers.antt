use Rattle.std.proofs.Common.{◌∙◌, arith}
use Rattle.mirror_schedule.proofs.PieceLists.{pieces_to-more, pieces_to-all}
use Rattle.mirror_schedule.proofs.splitting.split.Goals as goal

pub loop-k-preserved : goal.loop-k-preserved
loop-k-preserved c =
    c.in_ok-push.ensures.items ∙ pieces_to-more c.args.rec.now.tenancy c.args.rec.now.visit c.loop-k.k c.loop-k.pieces.items c.loop-k.invariant

pub returns : goal.returns
returns c =
    pieces_to-all c.args.plan.now.params c.args.rec.now c.loop-k.k c.loop-k.pieces.items c.loop-k.invariant
    (omega (arith, c.loop-k-test.false, c.loop-k.auto.k-end))
