use Rattle.std.proofs.Common.{◌≡◌, length}
use Rattle.ring_workers.proofs.ending.finish.Given as goal

abbrev pub invariant-rounds : goal.invariant-rounds
invariant-rounds g l =
    (goal.iterator-rounds g).can_next l.iterator' ×
    (goal.iterator-rounds g).is_finite l.iterator' ×
    (length l.shares.items ≡ length l.fn.locks.items)
