use Rattle.std.proofs.Common.{length}
use Rattle.cub_tick.proofs.Parts.{nothing}
use Rattle.cub_tick.specs.Leavings.{TakenOut}
use Rattle.disk_death.proofs.splitting.drop_leaving.Given as goal

abbrev pub invariant-loop : goal.invariant-loop
invariant-loop l = TakenOut l.fn.plan.params l.fn.time (λ _. nothing) l.fn.pieces nothing l.pieces nothing

abbrev pub decreases-loop : goal.decreases-loop
decreases-loop l = length l.pieces.items
