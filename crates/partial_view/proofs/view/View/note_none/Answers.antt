use Rattle.partial_view.proofs.Within.{spread_emptied}
use Rattle.std.proofs.Common.{◌≡◌, None, subst, sym}
use Rattle.partial_view.specs.Views.{Seen, first_of}
use Rattle.partial_view.proofs.view.View.note_none.Goals as goal

pub invariant_of-self : goal.invariant_of-self
invariant_of-self c = (
  c.self.invariant.0,
  c.self.invariant.1,
  spread_emptied c.self.inside.wheel.params c.self.inside.spread.spans.items c.empty.new.self.spans.items c.args.instance c.self.inside.wheel.lines c.empty.ensures
      (subst (λ (s : Seen). first_of c.args.instance s.lines ≡ None) (sym c.self.view_is) c.requires) c.self.invariant.2,
)
