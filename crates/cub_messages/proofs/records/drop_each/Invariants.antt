use Rattle.std.proofs.Common.{length}
use Rattle.cub_messages.proofs.Dropping.{Dropping}
use Rattle.cub_messages.proofs.records.drop_each.Given as goal

abbrev pub invariant-loop-rec : goal.invariant-loop-rec
invariant-loop-rec l = Dropping l.instance l.fn.view l.fn.out l.view l.out

abbrev pub decreases-loop-rec : goal.decreases-loop-rec
decreases-loop-rec l = length l.view.lines
