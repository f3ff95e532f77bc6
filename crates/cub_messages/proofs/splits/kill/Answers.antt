use Rattle.std.proofs.Common.{◌∙◌}
use Rattle.cub_messages.proofs.Killed.{told_more}
use Rattle.cub_messages.proofs.splits.kill.Goals as goal

pub loop-steps-preserved : goal.loop-steps-preserved
loop-steps-preserved c =
    c.in_ok-push.ensures.ok ∙ told_more c.args.site.now.plan.params c.args.site.now.cub.0 c.args.instance c.args.slot c.args.visit c.args.out.now c.loop-steps.out c.ahead.result c.loop-steps.steps c.loop-steps.auto.steps c.loop-steps.invariant c.ahead.ensures
