use Rattle.std.proofs.Common.{List, ap, ◌++◌, ◌∙◌}
use Rattle.tiger_base.specs.declared.message.Msg.{Msg}
use Rattle.node_kit.specs.declared.outbox.Out.{Out}
use Rattle.cub_rules.specs.Ticks.{is_past}
use Rattle.cub_tick.proofs.Served.{past_first, gone_out}
use Rattle.cub_tick.proofs.Working.{begun, holds_of_all, taken_fewer, taken_on, taken_done, outs_done}
use Rattle.cub_tick.proofs.serving.drop_backups.Goals as goal

pub loop-line-init : goal.loop-line-init
loop-line-init c = begun (holds_of_all c.args.view.now.lines)

pub loop-line-smaller : goal.loop-line-smaller
loop-line-smaller c =
    taken_fewer (is_past c.args.site.now.plan.params c.args.stamp) c.loop-line.view c.in-Some.ensures.walk
    (past_first c.args.site.now.plan.params c.args.stamp c.loop-line.view (c.loop-line.invariant.params ∙ c.requires.plan) c.in-Some.ensures.first)
    c.in-Some.ensures.left

pub loop-line-preserved : goal.loop-line-preserved
loop-line-preserved c =
    taken_on (is_past c.args.site.now.plan.params c.args.stamp) _ c.in-Some.ensures.walk
    (past_first c.args.site.now.plan.params c.args.stamp c.loop-line.view (c.loop-line.invariant.params ∙ c.requires.plan) c.in-Some.ensures.first)
    c.in-Some.ensures.left c.loop-line.invariant c.in_ok-push.ensures.ok

pub returns-clause-view : goal.returns-clause-view
returns-clause-view c =
    taken_done (is_past c.args.site.now.plan.params c.args.stamp) _ c.loop-line.invariant
    (past_first c.args.site.now.plan.params c.args.stamp c.loop-line.view (c.loop-line.invariant.params ∙ c.requires.plan) c.in_default.ensures.first)
    c.in_default.ensures.left

pub returns-clause-outs : goal.returns-clause-outs
returns-clause-outs c =
    outs_done (is_past c.args.site.now.plan.params c.args.stamp) _ c.loop-line.invariant
    (past_first c.args.site.now.plan.params c.args.stamp c.loop-line.view (c.loop-line.invariant.params ∙ c.requires.plan) c.in_default.ensures.first)
    ∙ ap (λ (zs : List (Out Msg)). c.args.out.now ++ zs) (gone_out c.args.site.now.plan.params c.args.stamp c.args.view.now.lines)
