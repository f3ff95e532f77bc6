use Rattle.partial_view.proofs.Frees.{full_none}
use Rattle.partial_view.proofs.Order.{all_without_instance}
use Rattle.partial_view.proofs.Pending.{kept_by}
use Rattle.partial_view.proofs.cub_view.CubView.remove_instance.Goals as goal

pub invariant_of-self : goal.invariant_of-self
invariant_of-self c =
    kept_by c.self.inside.plan.params c.self.inside.forwarded_to c.self.inside.split_from c.self.inside.asked_before c.self.inside.split_between.0 c.self.inside.split_between.1 c.self.inside.forwarded_between.0 c.self.inside.forwarded_between.1
    c.clear.new.self c.self.inside.near_pending.turn c.self.inside.near_unasked.turn c.self.inside.near_unsplit.turn c.self.inside.view c.remove_instance.new.self _ c.self.invariant.0 c.remove_instance.ensures.left
    (all_without_instance _ c.args.instance c.self.inside.view.lines c.self.invariant.1) (all_without_instance _ c.args.instance c.self.inside.view.lines c.self.invariant.2)
    (all_without_instance _ c.args.instance c.self.inside.view.lines c.self.invariant.3) (all_without_instance _ c.args.instance c.self.inside.view.lines c.self.invariant.4)
    (full_none c.self.inside.plan.params c.clear.new.self _ c.clear.ensures)
    (all_without_instance _ c.args.instance c.self.inside.view.lines c.self.invariant.6) c.self.invariant.7 c.self.invariant.8 c.self.invariant.9
