use Rattle.std.proofs.Common.{◌≡◌, ◌++◌, Some, length}
use Rattle.std.specs.Prelude.{slice_get}
use Rattle.ring_workers.specs.Ends.{HasEnd}
use Rattle.ring_workers.proofs.closing.all_of.Given as goal

abbrev pub invariant-loop-slot : goal.invariant-loop-slot
invariant-loop-slot g l =
    (goal.iterator-loop-slot g).can_next l.slot-iterator ×
    (goal.iterator-loop-slot g).is_finite l.slot-iterator ×
    (l.yielded ++ l.slot-iterator.rest.items ≡ l.fn.slots.items) ×
    (length l.all.items ≡ length l.yielded) ×
    ((k : _) (x : _) → slice_get l.all.items k ≡ Some x → HasEnd l.fn.slots.items k x)
