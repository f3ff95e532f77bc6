use Rattle.std.proofs.Common.{◌≡◌, ◌++◌, length}
use Rattle.ring_workers.specs.Ends.{AreSlots}
use Rattle.ring_workers.proofs.making.slots_of.Given as goal

abbrev pub invariant-loop-node : goal.invariant-loop-node
invariant-loop-node g l =
    (goal.iterator-loop-node g).can_next l.node-iterator ×
    (goal.iterator-loop-node g).is_finite l.node-iterator ×
    (l.yielded ++ l.node-iterator.rest.items ≡ l.fn.nodes.items) ×
    (length l.slots.items ≡ length l.yielded) ×
    AreSlots l.fn.nodes.items l.slots.items
