use Rattle.std.proofs.Common.{[], ◌∷◌, length}
use Rattle.std.specs.List.{filter}
use Rattle.cub_rules.specs.State.{IsLineOf}
use Rattle.cub_rules.specs.Ticks.{must_read, ask_line, ask_outs}
use Rattle.cub_tick.specs.Working.{WorkedOn}
use Rattle.cub_tick.proofs.reading.read_lines.Given as goal

abbrev pub invariant-loop-line : goal.invariant-loop-line
invariant-loop-line l =
    WorkedOn (IsLineOf l.fn.site.plan.params l.fn.site.cub.0) (ask_outs l.fn.site.plan.params l.fn.stamp l.fn.comeback) (λ x. ask_line l.fn.site.plan.params l.fn.stamp x ∷ []) l.fn.view l.fn.out l.view l.out

abbrev pub decreases-loop-line : goal.decreases-loop-line
decreases-loop-line l = length (filter (must_read l.fn.site.plan.params l.fn.stamp) l.view.lines)
