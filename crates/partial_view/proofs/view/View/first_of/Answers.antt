use Rattle.partial_view.proofs.Within.{of-span}
use Rattle.partial_view.proofs.view.View.first_of.Goals as goal

pub first_of-requires : goal.first_of-requires
first_of-requires c = of-span c.self.inside.wheel.params c.self.inside.spread.spans.items c.args.instance c.span-span.result c.self.inside.wheel.lines c.span-span.ensures c.self.invariant.2
