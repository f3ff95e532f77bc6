use Rattle.std.proofs.Common.{ℕ, List, Option, ap, subst, ◌∙◌}
use Rattle.mirror_schedule.specs.Pieces.{Pieces}
use Rattle.partial_view.specs.Views.{Seen}
use Rattle.node_kit.specs.Deeds.{Did}
use Rattle.node_kit.specs.Steps.Input.{Tick}
use Rattle.disk_death.specs.Spares.{SpareState, sparing, spare_step}
use Rattle.disk_death.proofs.Turns.{sparing_keeps}
use Rattle.disk_death.proofs.Events.{seen_as, ended, cub_kept, view_of_plan, under_way}
use Rattle.disk_death.proofs.spare.SpareCub.end_beat.Goals as goal

pub spare-requires-clause-view : goal.spare-requires-clause-view
spare-requires-clause-view c =
    let p = c.self.inside.site.plan.params in
    let n = c.self.inside.site.cub.0 in
    let kept = cub_kept c.self.inside.cub c.end_beat.new.self (Tick c.args.stamp) p n _ _ c.requires (c.self.invariant c.if-self.false).0 c.in_ok-end_beat.ensures in
    ap (λ (v : Seen). v.params) c.view.ensures ∙ view_of_plan c.end_beat.new.self p n kept

pub invariant_of-self-in_err-spare : goal.invariant_of-self-in_err-spare
invariant_of-self-in_err-spare c = λ e. under_way e

pub invariant_of-self-2 : goal.invariant_of-self-2
invariant_of-self-2 c = λ e.
    let p = c.self.inside.site.plan.params in
    let n = c.self.inside.site.cub.0 in
    let was = c.self.invariant c.if-self.false in (
      cub_kept c.self.inside.cub c.end_beat.new.self (Tick c.args.stamp) p n _ _ c.requires was.0 c.in_ok-end_beat.ensures,
      ap (λ (ps : Pieces). ps.params) c.in_ok-spare.ensures.1
          ∙ (sparing_keeps p n c.as_slice.result.now c.args.stamp c.view.result.now.lines c.self.inside.remembered ∙ was.1),
    )

pub returns : goal.returns
returns c =
    subst (λ (s : SpareState). Did (spare_step s (Tick c.args.stamp)) c.args.out.now c.spare.new.out (seen_as c.end_beat.new.self c.self.inside.deaths.items c.spare.new.remembered)) c.self.view_is
    (ended c.self.inside.site.plan.params c.self.inside.site.cub.0 c.self.inside.cub c.end_beat.new.self c.self.inside.deaths.items c.self.inside.remembered c.spare.new.remembered
    c.args.out.now c.end_beat.new.out c.spare.new.out (c.self.invariant c.if-self.false).0 c.args.stamp c.view.result.now.lines
    (ap (λ (v : Seen). v.lines) c.view.ensures) c.in_ok-end_beat.ensures
    (subst
    (λ (ds : List (Option ℕ)). Did (sparing c.self.inside.site.plan.params c.self.inside.site.cub.0 ds c.args.stamp c.view.result.now.lines c.self.inside.remembered)
    c.end_beat.new.out c.spare.new.out c.spare.new.remembered) c.as_slice.ensures.value c.in_ok-spare.ensures))
