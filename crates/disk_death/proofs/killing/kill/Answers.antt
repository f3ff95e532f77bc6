use Rattle.std.proofs.Common.{ap, ◌∙◌, ◌++◌, ◌∷◌, [], arith}
use Rattle.tiger_base.specs.declared.number.LinkNo.{LinkNo}
use Rattle.tiger_base.specs.declared.message.Msg.TheVariants as msg
use Rattle.node_kit.specs.declared.outbox.Out.TheVariants as out
use Rattle.disk_death.specs.Spares.{killed_ahead}
use Rattle.disk_death.proofs.Walks.{range_on, range_done}
use Rattle.disk_death.proofs.killing.kill.Goals as goal

pub loop-steps-preserved : goal.loop-steps-preserved
loop-steps-preserved c =
    range_on (killed_ahead c.args.site.now.plan.params c.args.site.now.cub.0 c.args.piece) c.args.out.now c.loop-steps.out _ c.loop-steps.steps c.loop-steps.auto.steps
    c.loop-steps.invariant
    (c.in_ok-push.ensures.ok
    ∙ ap (λ (l : LinkNo). c.loop-steps.out ++ out.Send l (msg.Kill c.args.piece.tenancy.instance c.args.piece.tenancy.slot c.args.piece.visit) ∷ []) c.ahead.ensures)

pub returns : goal.returns
returns c =
    range_done (killed_ahead c.args.site.now.plan.params c.args.site.now.cub.0 c.args.piece) c.args.out.now c.loop-steps.out c.loop-steps.steps c.args.site.now.plan.params.pieces
    (omega (arith, c.loop-steps-test.false, c.loop-steps.auto.steps-end)) c.loop-steps.invariant
