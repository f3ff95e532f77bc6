use Rattle.std.proofs.Common.{◌≡◌, take}
use Rattle.ring_nodes.specs.AllNodes.{faults_of}
use Rattle.ring_nodes.proofs.making.faults_of.Given as goal

abbrev pub invariant-loop-fault : goal.invariant-loop-fault
invariant-loop-fault l = l.mine.items ≡ faults_of l.disk.0 (take l.fault-index l.faults)
