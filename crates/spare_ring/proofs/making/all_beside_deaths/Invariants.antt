use Rattle.std.proofs.Common.{◌≡◌, ◌++◌, length}
use Rattle.ring_nodes.specs.AllNodes.{each_numbered}
use Rattle.spare_ring.specs.Nodes.{beside_deaths}
use Rattle.spare_ring.proofs.making.all_beside_deaths.Given as goal

abbrev pub invariant-loop-node : goal.invariant-loop-node
invariant-loop-node g l =
    (goal.iterator-loop-node g).can_next l.node-iterator ×
    (goal.iterator-loop-node g).is_finite l.node-iterator ×
    (length l.made.items ≡ length l.yielded) ×
    (l.yielded ++ l.node-iterator.rest.items ≡ l.fn.nodes.items) ×
    (l.made.items ≡ each_numbered (beside_deaths l.course.plan.params l.course.faults l.course.beats) 0 l.yielded)
