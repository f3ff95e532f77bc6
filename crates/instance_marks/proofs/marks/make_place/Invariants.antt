use Rattle.std.proofs.Common.{◌≡◌, ◌+◌, ◌-◌, ℕ, false, length, get_or}
use Rattle.instance_marks.proofs.marks.make_place.Given as goal

abbrev pub invariant-loop-instance : goal.invariant-loop-instance
invariant-loop-instance l = (n : ℕ) → get_or l.marks.items n false ≡ get_or l.fn.marks.items n false

abbrev pub decreases-loop-instance : goal.decreases-loop-instance
decreases-loop-instance l = l.instance.0 + 1 - length l.marks.items
