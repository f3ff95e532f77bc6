use Rattle.std.proofs.Common.{subst}
use Rattle.slot_plan.specs.declared.params.Params.{Params}
use Rattle.partial_view.specs.Passing.{NonePasses}
use Rattle.partial_view.specs.Pending.{is_unasked}
use Rattle.partial_view.proofs.Lefts.{asked_left}
use Rattle.partial_view.proofs.cub_view.CubView.asked_on.Goals as goal

pub invariant_of-self : goal.invariant_of-self
invariant_of-self c = (
  c.self.invariant.0,
  c.self.invariant.1,
  c.self.invariant.2,
  asked_left c.self.inside.plan.params c.self.inside.asked_before c.left_from-self-inside.result c.self.inside.view.lines
      (subst (λ (q : Params). NonePasses q is_unasked c.self.inside.asked_before c.left_from-self-inside.result c.self.inside.view.lines) c.self.invariant.0 c.left_from-self-inside.ensures) c.self.invariant.3,
  c.self.invariant.4,
  c.self.invariant.5,
  c.self.invariant.6,
  c.self.invariant.7,
  c.self.invariant.8,
  c.self.invariant.9,
)
