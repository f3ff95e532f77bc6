use Rattle.partial_view.proofs.Rounds.{walk-seen}
use Rattle.partial_view.proofs.wheel.Wheel.are_in_order.Goals as goal

pub returns : goal.returns
returns c = walk-seen c.self.inside.plan.params c.self.inside.buckets.items c.self.view_is c.self.invariant.0
