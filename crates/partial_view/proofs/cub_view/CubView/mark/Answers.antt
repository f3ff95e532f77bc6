use Rattle.partial_view.proofs.Pending.{kept_mark}
use Rattle.partial_view.proofs.cub_view.CubView.mark.Goals as goal

pub invariant_of-self : goal.invariant_of-self
invariant_of-self c =
    kept_mark c.self.inside.plan.params c.self.inside.forwarded_to c.self.inside.split_from c.self.inside.asked_before c.self.inside.split_between.0 c.self.inside.split_between.1 c.self.inside.forwarded_between.0 c.self.inside.forwarded_between.1
    c.self.inside.full c.self.inside.near_pending.turn c.self.inside.near_unasked.turn c.self.inside.near_unsplit.turn c.self.inside.view c.mark.new.self (c.args.slot, c.args.visit) c.args.flag c.self.invariant.0 c.mark.ensures.marked
    c.self.invariant.1 c.self.invariant.2 c.self.invariant.3 c.self.invariant.4 c.self.invariant.5 c.self.invariant.6 c.self.invariant.7 c.self.invariant.8 c.self.invariant.9
