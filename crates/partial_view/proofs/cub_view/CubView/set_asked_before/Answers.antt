use Rattle.std.proofs.Common.{sym, subst}
use Rattle.slot_plan.specs.declared.params.Params.{Params}
use Rattle.partial_view.specs.Pending.{IsAskedBefore}
use Rattle.partial_view.specs.Views.{Seen}
use Rattle.partial_view.proofs.cub_view.CubView.set_asked_before.Goals as goal

pub invariant_of-self : goal.invariant_of-self
invariant_of-self c = (
  c.self.invariant.0,
  c.self.invariant.1,
  c.self.invariant.2,
  subst (λ (q : Params). IsAskedBefore q c.args.limit c.self.inside.view.lines) c.self.invariant.0 (subst (λ (s : Seen). IsAskedBefore s.params c.args.limit s.lines) (sym c.self.view_is) c.requires),
  c.self.invariant.4,
  c.self.invariant.5,
  c.self.invariant.6,
  c.self.invariant.7,
  c.self.invariant.8,
  c.self.invariant.9,
)
