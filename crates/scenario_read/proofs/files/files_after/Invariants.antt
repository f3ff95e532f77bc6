use Rattle.std.proofs.Common.{◌≡◌, length}
use Rattle.scenario_read.specs.Files.{file_after}
use Rattle.scenario_read.proofs.Loop.{GoesOn}
use Rattle.scenario_read.proofs.files.files_after.Given as goal

abbrev pub invariant-loop-value : goal.invariant-loop-value
invariant-loop-value l = record {
  count : length l.files.items ≡ l.value-index;
  meaning : GoesOn 8 (file_after l.disks) l.files.items l.values l.value-index;
}
