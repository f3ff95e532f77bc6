use Rattle.std.proofs.Common.{◌≡◌, ◌++◌, ◌-◌}
use Rattle.cub_messages.proofs.Killed.{told_first}
use Rattle.cub_messages.proofs.splits.kill.Given as goal

abbrev pub invariant-loop-steps : goal.invariant-loop-steps
invariant-loop-steps l = l.out ≡ l.fn.out ++ told_first l.site.plan.params l.site.cub.0 l.instance l.slot l.visit (l.steps - 1)
