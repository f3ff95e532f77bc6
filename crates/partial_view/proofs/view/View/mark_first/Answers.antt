use Rattle.partial_view.proofs.Earliest.{begun_by, before_mark_of}
use Rattle.partial_view.proofs.Within.{spread_mark_of}
use Rattle.partial_view.proofs.view.View.mark_first.Goals as goal

pub invariant_of-self : goal.invariant_of-self
invariant_of-self c =
    begun_by c.self.inside.begin c.self.inside.front.turn c.self.inside.spread.spans.items c.self.inside.wheel c.mark_first.new.self _ c.mark_first.ensures.marked
    (before_mark_of c.self.inside.wheel.params c.self.inside.begin c.args.flag _ c.self.inside.wheel.lines c.self.invariant.0) c.self.invariant.1 (spread_mark_of c.self.inside.wheel.params c.self.inside.spread.spans.items c.args.flag _ c.self.inside.wheel.lines c.self.invariant.2)
