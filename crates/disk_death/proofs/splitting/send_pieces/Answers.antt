use Rattle.std.proofs.Common.{ap, ◌∙◌, ◌++◌, ◌∷◌, [], arith}
use Rattle.tiger_base.specs.declared.number.LinkNo.{LinkNo}
use Rattle.tiger_base.specs.declared.message.Msg.TheVariants as msg
use Rattle.node_kit.specs.declared.outbox.Out.TheVariants as out
use Rattle.disk_death.specs.Spares.{sent_to_mirror, piece_numbered}
use Rattle.disk_death.proofs.Walks.{range_on, range_done}
use Rattle.disk_death.proofs.splitting.send_pieces.Goals as goal

pub loop-k-preserved : goal.loop-k-preserved
loop-k-preserved c =
    range_on (sent_to_mirror c.args.site.now.plan.params c.args.site.now.cub.0 c.args.rec) c.args.out.now c.loop-k.out _ c.loop-k.k c.loop-k.auto.k
    c.loop-k.invariant
    (c.in_ok-push.ensures.ok
    ∙ ap (λ (l : LinkNo). c.loop-k.out ++ out.Send l (msg.MirrorState (piece_numbered c.args.rec c.loop-k.k)) ∷ []) c.ahead.ensures)

pub returns : goal.returns
returns c =
    range_done (sent_to_mirror c.args.site.now.plan.params c.args.site.now.cub.0 c.args.rec) c.args.out.now c.loop-k.out c.loop-k.k c.args.site.now.plan.params.pieces
    (omega (arith, c.loop-k-test.false, c.loop-k.auto.k-end)) c.loop-k.invariant
