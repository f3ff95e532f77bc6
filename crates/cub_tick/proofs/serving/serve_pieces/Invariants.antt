use Rattle.std.proofs.Common.{length}
use Rattle.cub_rules.specs.Ticks.{piece_outs}
use Rattle.cub_tick.specs.Leavings.{TakenOut}
use Rattle.cub_tick.proofs.serving.serve_pieces.Given as goal

abbrev pub invariant-loop-piece : goal.invariant-loop-piece
invariant-loop-piece l = TakenOut l.fn.site.plan.params (l.fn.stamp.reading) (piece_outs l.fn.site.plan.params l.fn.site.cub.0 l.fn.stamp l.fn.parts) l.fn.pieces l.fn.out l.pieces l.out

abbrev pub decreases-loop-piece : goal.decreases-loop-piece
decreases-loop-piece l = length l.pieces.items
