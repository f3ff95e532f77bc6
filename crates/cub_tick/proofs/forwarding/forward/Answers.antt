use Rattle.std.proofs.Common.{refl, ◌∙◌}
use Rattle.cub_tick.proofs.States.{forwarded_by_walk, forwarded_before, forwarded_then, forwarded_known}
use Rattle.cub_tick.proofs.forwarding.forward.Goals as goal

pub returns-then-is_forwarded_to : goal.returns-then-is_forwarded_to
returns-then-is_forwarded_to c =
    forwarded_before c.args.site.now.plan.params c.args.site.now.cub.0 c.args.site.now.plan.sound c.args.stamp c.args.store.now c.args.out.now
    (forwarded_known c.args.site.now.plan.params c.args.stamp c.forward_limit-limit.result c.args.store.now.view c.requires.stored.view_plan c.forward_limit-limit.ensures (c.is_forwarded_to.ensures c.if-is_forwarded_to.true))

pub set_forwarded_to-requires : goal.set_forwarded_to-requires
set_forwarded_to-requires c =
    forwarded_then c.args.site.now.plan.params c.args.stamp c.forward_limit-limit.result c.args.store.now.view c.forward_lines.new.view c.requires.stored.view_plan c.forward_limit-limit.ensures c.in_ok-forward_lines.ensures.view

pub returns : goal.returns
returns c =
    forwarded_by_walk c.args.site.now.plan.params c.args.site.now.cub.0 c.args.stamp c.args.store.now _ c.args.out.now c.forward_lines.new.out c.set_forwarded_to.new.self
    (c.set_forwarded_to.ensures ∙ c.in_ok-forward_lines.ensures.view) c.in_ok-forward_lines.ensures.outs refl
