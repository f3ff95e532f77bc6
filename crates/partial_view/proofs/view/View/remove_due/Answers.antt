use Rattle.partial_view.proofs.Earliest.{begun_by}
use Rattle.partial_view.proofs.Order.{all_without}
use Rattle.partial_view.proofs.view.View.remove_due.Goals as goal

pub invariant_of-self : goal.invariant_of-self
invariant_of-self c =
    begun_by c.self.inside.begin c.self.inside.front.turn c.self.inside.spread.spans.items c.self.inside.wheel c.remove.new.self _ c.remove.ensures.left
    (all_without _ (c.args.slot, c.args.visit) c.self.inside.wheel.lines c.self.invariant.0) c.self.invariant.1 (all_without _ (c.args.slot, c.args.visit) c.self.inside.wheel.lines c.self.invariant.2)

pub invariant_of-self-2 : goal.invariant_of-self-2
invariant_of-self-2 c =
    begun_by c.self.inside.begin c.self.inside.front.turn c.self.inside.spread.spans.items c.self.inside.wheel c.remove.new.self _ c.remove.ensures.left
    (all_without _ (c.args.slot, c.args.visit) c.self.inside.wheel.lines c.self.invariant.0) c.self.invariant.1 (all_without _ (c.args.slot, c.args.visit) c.self.inside.wheel.lines c.self.invariant.2)
