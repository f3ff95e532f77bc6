use Rattle.partial_view.proofs.Earliest.{begun_by}
use Rattle.partial_view.proofs.Order.{all_without_instance}
use Rattle.partial_view.proofs.view.View.remove_instance.Goals as goal

pub invariant_of-self : goal.invariant_of-self
invariant_of-self c =
    begun_by c.self.inside.begin c.self.inside.front.turn c.self.inside.spread.spans.items c.self.inside.wheel c.remove_instance.new.self _ c.remove_instance.ensures.left
    (all_without_instance _ c.args.instance c.self.inside.wheel.lines c.self.invariant.0) c.self.invariant.1 (all_without_instance _ c.args.instance c.self.inside.wheel.lines c.self.invariant.2)
