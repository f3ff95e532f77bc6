use Rattle.std.proofs.Common.{◌≡◌, length}
use Rattle.scenario_read.specs.ReadFaults.{read_fault_after}
use Rattle.scenario_read.proofs.Loop.{GoesOn}
use Rattle.scenario_read.proofs.read_faults.read_faults_after.Given as goal

abbrev pub invariant-loop-value : goal.invariant-loop-value
invariant-loop-value l = record {
  count : length l.faults.items ≡ l.value-index;
  meaning : GoesOn 12 (read_fault_after l.disks l.beats) l.faults.items l.values l.value-index;
}
