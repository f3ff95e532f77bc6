use Rattle.std.proofs.Common.{length}
use Rattle.disk_death.proofs.Turns.{SplitTo, lines_left}
use Rattle.disk_death.proofs.splitting.split_lines.Given as goal

abbrev pub invariant-loop-line : goal.invariant-loop-line
invariant-loop-line l = SplitTo l.site.plan.params l.site.cub.0 l.deaths l.stamp l.view.lines l.fn.remembered l.fn.out l.last l.remembered l.out

abbrev pub decreases-loop-line : goal.decreases-loop-line
decreases-loop-line l = length (lines_left l.site.plan.params l.last l.view.lines)
