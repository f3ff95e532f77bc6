use Rattle.std.proofs.Common.{length}
use Rattle.std.specs.List.{filter}
use Rattle.cub_rules.specs.State.{IsLineOf}
use Rattle.cub_rules.specs.Ticks.{is_served, serve_outs}
use Rattle.cub_tick.specs.Working.{WorkedOn}
use Rattle.cub_tick.proofs.Working.{takes}
use Rattle.cub_tick.proofs.serving.serve_blocks.Given as goal

abbrev pub invariant-loop-line : goal.invariant-loop-line
invariant-loop-line l =
    WorkedOn (IsLineOf l.fn.site.plan.params l.fn.site.cub.0) (serve_outs l.fn.site.plan.params l.fn.site.cub.0 l.fn.stamp l.fn.comeback l.fn.parts) (takes (is_served l.fn.site.plan.params l.fn.stamp)) l.fn.view l.fn.out l.view l.out

abbrev pub decreases-loop-line : goal.decreases-loop-line
decreases-loop-line l = length (filter (is_served l.fn.site.plan.params l.fn.stamp) l.view.lines)
