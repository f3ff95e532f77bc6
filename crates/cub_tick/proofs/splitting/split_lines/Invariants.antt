use Rattle.std.proofs.Common.{length}
use Rattle.std.specs.List.{filter}
use Rattle.cub_rules.specs.Ticks.{must_split}
use Rattle.cub_tick.specs.Splitting.{SplitOn}
use Rattle.cub_tick.proofs.splitting.split_lines.Given as goal

abbrev pub invariant-loop-line : goal.invariant-loop-line
invariant-loop-line l = SplitOn l.fn.site.plan.params l.fn.site.cub.0 l.fn.stamp l.fn.store l.fn.out l.store l.out

abbrev pub decreases-loop-line : goal.decreases-loop-line
decreases-loop-line l = length (filter (must_split l.fn.site.plan.params l.fn.stamp) l.store.view.lines)
