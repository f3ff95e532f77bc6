use Rattle.std.proofs.Common.{sym, subst}
use Rattle.slot_plan.specs.declared.params.Params.{Params}
use Rattle.partial_view.specs.Pending.{IsForwardedTo}
use Rattle.partial_view.specs.Views.{Seen}
use Rattle.partial_view.proofs.Pending.{forwarded_on}
use Rattle.partial_view.proofs.cub_view.CubView.set_forwarded_to.Goals as goal

pub invariant_of-self : goal.invariant_of-self
invariant_of-self c = (
  c.self.invariant.0,
  forwarded_on c.self.inside.plan.params c.args.limit c.self.inside.forwarded_between.0 c.self.inside.forwarded_between.1 c.forwarded_past-self-inside.result c.self.inside.view.lines c.forwarded_past-self-inside.ensures
      (subst (λ (q : Params). IsForwardedTo q c.args.limit c.self.inside.view.lines) c.self.invariant.0
      (subst (λ (s : Seen). IsForwardedTo s.params c.args.limit s.lines) (sym c.self.view_is) c.requires)) c.self.invariant.6,
  c.self.invariant.2,
  c.self.invariant.3,
  c.self.invariant.4,
  c.self.invariant.5,
  c.self.invariant.6,
  c.self.invariant.7,
  c.self.invariant.8,
  c.self.invariant.9,
)
