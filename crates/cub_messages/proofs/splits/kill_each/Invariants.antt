use Rattle.std.proofs.Common.{length}
use Rattle.cub_messages.proofs.Killed.{Killing}
use Rattle.cub_messages.proofs.splits.kill_each.Given as goal

abbrev pub invariant-loop-slot : goal.invariant-loop-slot
invariant-loop-slot l = Killing l.site.plan.params l.site.cub.0 l.instance l.fn.splits l.fn.out l.splits l.out

abbrev pub decreases-loop-slot : goal.decreases-loop-slot
decreases-loop-slot l = length l.splits
