use Rattle.std.proofs.Common.{arith, ◌∙◌}
use Rattle.partial_view.specs.declared.line.Flag.TheVariants.{Forwarded}
use Rattle.cub_rules.specs.Ticks.{is_to_forward}
use Rattle.cub_tick.proofs.States.{forward_first, forward_once, time_small}
use Rattle.cub_tick.proofs.Working.{begun, first_key, marked_fewer, marked_on, marked_done, outs_done}
use Rattle.cub_tick.proofs.forwarding.forward_lines.Goals as goal

pub loop-line-init : goal.loop-line-init
loop-line-init c = begun c.requires.lines

pub forward_next-requires : goal.forward_next-requires
forward_next-requires c =
    time_small c.args.site.now.plan.params c.args.site.now.plan.sound c.args.stamp c.forward_limit.result c.saturating_sub-time.result c.requires.reading c.forward_limit.ensures c.saturating_sub-time.ensures

pub overflow_add-state : goal.overflow_add-state
overflow_add-state c =
    let key = first_key (is_to_forward c.args.site.now.plan.params c.args.stamp) c.loop-line.view.params c.in-Some.line c.loop-line.view.lines c.in-Some.ensures.walk
    (forward_first c.args.site.now.plan.params c.args.site.now.plan.sound c.args.stamp c.forward_limit.result c.saturating_sub-time.result c.forward_limit.ensures c.saturating_sub-time.ensures c.loop-line.view (c.loop-line.invariant.params ∙ c.requires.plan) c.in-Some.ensures.first) in
    omega (arith, key.1)

pub loop-line-smaller : goal.loop-line-smaller
loop-line-smaller c =
    marked_fewer (is_to_forward c.args.site.now.plan.params c.args.stamp) c.loop-line.view c.in-Some.ensures.walk
    (forward_first c.args.site.now.plan.params c.args.site.now.plan.sound c.args.stamp c.forward_limit.result c.saturating_sub-time.result c.forward_limit.ensures c.saturating_sub-time.ensures c.loop-line.view (c.loop-line.invariant.params ∙ c.requires.plan) c.in-Some.ensures.first)
    Forwarded (forward_once c.args.site.now.plan.params c.args.stamp) c.in-Some.ensures.marked

pub loop-line-preserved : goal.loop-line-preserved
loop-line-preserved c =
    marked_on (is_to_forward c.args.site.now.plan.params c.args.stamp) _ Forwarded c.in-Some.ensures.walk
    (forward_first c.args.site.now.plan.params c.args.site.now.plan.sound c.args.stamp c.forward_limit.result c.saturating_sub-time.result c.forward_limit.ensures c.saturating_sub-time.ensures c.loop-line.view (c.loop-line.invariant.params ∙ c.requires.plan) c.in-Some.ensures.first)
    (forward_once c.args.site.now.plan.params c.args.stamp) c.in-Some.ensures.marked (λ y h. h) c.loop-line.invariant c.in_ok-send_state.ensures

pub returns-clause-view : goal.returns-clause-view
returns-clause-view c =
    marked_done (is_to_forward c.args.site.now.plan.params c.args.stamp) _ Forwarded c.loop-line.invariant
    (forward_first c.args.site.now.plan.params c.args.site.now.plan.sound c.args.stamp c.forward_limit.result c.saturating_sub-time.result c.forward_limit.ensures c.saturating_sub-time.ensures c.loop-line.view (c.loop-line.invariant.params ∙ c.requires.plan) c.in_default.ensures.first)
    c.in_default.ensures.marked

pub returns-clause-outs : goal.returns-clause-outs
returns-clause-outs c =
    outs_done (is_to_forward c.args.site.now.plan.params c.args.stamp) _ c.loop-line.invariant
    (forward_first c.args.site.now.plan.params c.args.site.now.plan.sound c.args.stamp c.forward_limit.result c.saturating_sub-time.result c.forward_limit.ensures c.saturating_sub-time.ensures c.loop-line.view (c.loop-line.invariant.params ∙ c.requires.plan) c.in_default.ensures.first)
