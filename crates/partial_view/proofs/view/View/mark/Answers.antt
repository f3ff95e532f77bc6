use Rattle.partial_view.proofs.Earliest.{begun_by, before_mark}
use Rattle.partial_view.proofs.Within.{spread_mark}
use Rattle.partial_view.proofs.view.View.mark.Goals as goal

pub invariant_of-self : goal.invariant_of-self
invariant_of-self c =
    begun_by c.self.inside.begin c.self.inside.front.turn c.self.inside.spread.spans.items c.self.inside.wheel c.mark.new.self _ c.mark.ensures.marked
    (before_mark c.self.inside.wheel.params c.self.inside.begin (c.args.slot, c.args.visit) c.args.flag c.self.inside.wheel.lines c.self.invariant.0) c.self.invariant.1 (spread_mark c.self.inside.wheel.params c.self.inside.spread.spans.items (c.args.slot, c.args.visit) c.args.flag c.self.inside.wheel.lines c.self.invariant.2)
