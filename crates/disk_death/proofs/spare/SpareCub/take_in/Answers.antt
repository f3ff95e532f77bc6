use Rattle.std.proofs.Common.{ap, subst, ◌∙◌}
use Rattle.mirror_schedule.specs.Pieces.{Pieces}
use Rattle.node_kit.specs.Deeds.{Did}
use Rattle.node_kit.specs.Steps.Input.{Take}
use Rattle.disk_death.specs.Spares.{SpareState, spare_step}
use Rattle.disk_death.proofs.Turns.{killing_keeps}
use Rattle.disk_death.proofs.Events.{seen_as, taken, cub_kept, under_way}
use Rattle.disk_death.proofs.spare.SpareCub.take_in.Goals as goal

pub invariant_of-self-in_err-kill_stopped : goal.invariant_of-self-in_err-kill_stopped
invariant_of-self-in_err-kill_stopped c = λ e. under_way e

pub invariant_of-self-2 : goal.invariant_of-self-2
invariant_of-self-2 c = λ e.
    let p = c.self.inside.site.plan.params in
    let n = c.self.inside.site.cub.0 in
    let was = c.self.invariant c.if-self.false in (
      cub_kept c.self.inside.cub c.take_in.new.self (Take c.args.stamp c.args.link c.args.msg) p n _ _ c.requires was.0 c.in_ok-take_in.ensures,
      ap (λ (ps : Pieces). ps.params) c.in_ok-kill_stopped.ensures.1 ∙ (killing_keeps p n c.stopped_in_form-stopped.result c.self.inside.remembered ∙ was.1),
    )

pub returns : goal.returns
returns c =
    subst (λ (s : SpareState). Did (spare_step s (Take c.args.stamp c.args.link c.args.msg)) c.args.out.now c.kill_stopped.new.out (seen_as c.take_in.new.self c.self.inside.deaths.items c.kill_stopped.new.remembered)) c.self.view_is
    (taken c.self.inside.site.plan.params c.self.inside.site.cub.0 c.self.inside.cub c.take_in.new.self c.self.inside.deaths.items c.self.inside.remembered c.kill_stopped.new.remembered
    c.args.out.now c.take_in.new.out c.kill_stopped.new.out (c.self.invariant c.if-self.false).0 c.args.stamp c.args.link c.args.msg c.stopped_in_form-stopped.result
    c.stopped_in_form-stopped.ensures c.in_ok-take_in.ensures c.in_ok-kill_stopped.ensures)
