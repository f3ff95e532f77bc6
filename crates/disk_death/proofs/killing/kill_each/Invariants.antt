use Rattle.std.proofs.Common.{length}
use Rattle.disk_death.proofs.Turns.{KilledTo, pieces_left}
use Rattle.disk_death.proofs.killing.kill_each.Given as goal

abbrev pub invariant-loop-piece : goal.invariant-loop-piece
invariant-loop-piece l = KilledTo l.site.plan.params l.site.cub.0 l.instance l.remembered l.fn.out l.last l.out

abbrev pub decreases-loop-piece : goal.decreases-loop-piece
decreases-loop-piece l = length (pieces_left l.remembered.params l.last l.remembered.items)
