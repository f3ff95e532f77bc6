use Rattle.std.proofs.Common.{subst, arith}
use Rattle.slot_plan.specs.declared.params.Params.{Params}
use Rattle.partial_view.specs.Passing.{NonePasses}
use Rattle.partial_view.specs.Pending.{is_pending}
use Rattle.partial_view.proofs.Lefts.{forwarded_left}
use Rattle.partial_view.proofs.cub_view.CubView.forwarded_on.Goals as goal

pub invariant_of-self : goal.invariant_of-self
invariant_of-self c = (
  c.self.invariant.0,
  forwarded_left c.self.inside.plan.params c.self.inside.forwarded_to c.saturating_sub-from.result c.left_from-next.result c.max-self-inside.result c.self.inside.view.lines
      (omega (arith, c.self.inside.plan.sound.ranges.play.0)) (omega (arith, c.saturating_sub-from.ensures, c.saturating_add.ensures)) (omega (arith, c.max-self-inside.ensures, c.saturating_add-2.ensures))
      (subst (λ (q : Params). NonePasses q is_pending c.saturating_sub-from.result c.left_from-next.result c.self.inside.view.lines) c.self.invariant.0 c.left_from-next.ensures) c.self.invariant.1,
  c.self.invariant.2,
  c.self.invariant.3,
  c.self.invariant.4,
  c.self.invariant.5,
  c.self.invariant.6,
  c.self.invariant.7,
  c.self.invariant.8,
  c.self.invariant.9,
)
