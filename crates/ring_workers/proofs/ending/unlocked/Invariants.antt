use Rattle.std.proofs.Common.{◌≡◌, ◌++◌, length}
use Rattle.ring_workers.proofs.ending.unlocked.Given as goal

abbrev pub invariant-loop-lock : goal.invariant-loop-lock
invariant-loop-lock g l =
    (goal.iterator-loop-lock g).can_next l.lock-iterator ×
    (goal.iterator-loop-lock g).is_finite l.lock-iterator ×
    (length l.shares.items ≡ length l.yielded) ×
    (l.yielded ++ l.lock-iterator.rest.items ≡ l.fn.locks.items)
