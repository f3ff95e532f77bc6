use Rattle.std.proofs.Common.{◌≡◌, length}
use Rattle.instance_marks.proofs.notes.forget_all.Given as goal

abbrev pub invariant-loop-place : goal.invariant-loop-place
invariant-loop-place l = length l.marks.items ≡ length l.fn.marks.items
