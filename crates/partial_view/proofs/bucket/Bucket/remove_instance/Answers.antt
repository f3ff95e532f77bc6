use Rattle.partial_view.proofs.Order.{walk_without_instance}
use Rattle.partial_view.proofs.Calls.{walk-along}
use Rattle.partial_view.proofs.bucket.Bucket.remove_instance.Goals as goal

pub invariant_of-self : goal.invariant_of-self
invariant_of-self c =
    walk-along c.self.inside.lines.params _ c.remove_instance.ensures.left (walk_without_instance c.self.inside.lines.params c.args.instance c.self.inside.lines.lines c.self.invariant)
