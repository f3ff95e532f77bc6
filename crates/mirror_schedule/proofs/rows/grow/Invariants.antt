use Rattle.std.proofs.Common.{◌≡◌, ◌-◌, ℕ, suc, length}
use Rattle.mirror_schedule.specs.Listings.{piece_row}
use Rattle.mirror_schedule.proofs.rows.grow.Given as goal

abbrev pub invariant-loop-alloc : goal.invariant-loop-alloc
invariant-loop-alloc l = (n : ℕ) → piece_row l.rows.items n ≡ piece_row l.fn.rows.items n

abbrev pub decreases-loop-alloc : goal.decreases-loop-alloc
decreases-loop-alloc l = suc l.row - length l.rows.items
