use Rattle.partial_view.proofs.Counts.{AreWithout}
use Rattle.partial_view.proofs.wheel.without_each.Given as goal

abbrev pub invariant-loop-i : goal.invariant-loop-i
invariant-loop-i l = AreWithout l.plan.params l.instance l.fn.buckets.items l.buckets.items l.count l.i
