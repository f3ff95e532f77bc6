use Rattle.std.proofs.Common.{◌≡◌, ◌++◌, take}
use Rattle.ring_nodes.specs.AllNodes.{each_numbered, opening_disk}
use Rattle.ring_nodes.proofs.making.add_disks.Given as goal

abbrev pub invariant-loop-place : goal.invariant-loop-place
invariant-loop-place g l =
    l.nodes.items ≡ l.fn.nodes.items ++ each_numbered (opening_disk l.course.plan.params l.course.faults) 0 (take l.place l.images)
