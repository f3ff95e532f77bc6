use Rattle.std.proofs.Common.{arith}
use Rattle.partial_view.proofs.Pending.{kept_without}
use Rattle.partial_view.proofs.cub_view.CubView.remove.Goals as goal

pub invariant_of-self : goal.invariant_of-self
invariant_of-self c =
    kept_without c.self.inside.plan.params c.self.inside.forwarded_to c.self.inside.split_from c.self.inside.asked_before c.self.inside.split_between.0 c.self.inside.split_between.1 c.self.inside.forwarded_between.0 c.self.inside.forwarded_between.1 c.gone_from-self-inside.result
    c.self.inside.full c.self.inside.near_pending.turn c.self.inside.near_unasked.turn c.self.inside.near_unsplit.turn c.self.inside.view c.remove_due.new.self (c.args.slot, c.args.visit) c.self.invariant.0 c.remove_due.ensures.left
    c.gone_from-self-inside.ensures.later (omega (arith, c.gone_from-self-inside.ensures.gone, c.due-due.ensures.due))
    c.self.invariant.1 c.self.invariant.2 c.self.invariant.3 c.self.invariant.4 c.self.invariant.5 c.self.invariant.6 c.self.invariant.7 c.self.invariant.8 c.self.invariant.9
