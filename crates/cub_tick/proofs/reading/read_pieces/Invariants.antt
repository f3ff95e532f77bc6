use Rattle.std.proofs.Common.{◌+◌, [], ◌∷◌, length}
use Rattle.cub_rules.specs.Ticks.{asked_of_disk}
use Rattle.cub_tick.specs.Leavings.{TakenOut}
use Rattle.cub_tick.proofs.reading.read_pieces.Given as goal

abbrev pub invariant-loop-piece : goal.invariant-loop-piece
invariant-loop-piece l = TakenOut l.fn.site.plan.params (l.fn.stamp.reading + l.fn.site.plan.params.read_lead) (λ x. asked_of_disk l.fn.site.plan.params x ∷ []) l.fn.unasked l.fn.out l.unasked l.out

abbrev pub decreases-loop-piece : goal.decreases-loop-piece
decreases-loop-piece l = length l.unasked.items
