use Rattle.std.proofs.Common.{length}
use Rattle.std.specs.List.{filter}
use Rattle.cub_rules.specs.Ticks.{is_past}
use Rattle.cub_tick.specs.Working.{WorkedOn}
use Rattle.cub_tick.proofs.Served.{past_outs}
use Rattle.cub_tick.proofs.Working.{takes}
use Rattle.cub_tick.proofs.serving.drop_backups.Given as goal

abbrev pub invariant-loop-line : goal.invariant-loop-line
invariant-loop-line l =
    WorkedOn (λ _. Unit {0}) (past_outs l.fn.site.plan.params l.fn.stamp) (takes (is_past l.fn.site.plan.params l.fn.stamp)) l.fn.view l.fn.out l.view l.out

abbrev pub decreases-loop-line : goal.decreases-loop-line
decreases-loop-line l = length (filter (is_past l.fn.site.plan.params l.fn.stamp) l.view.lines)
