use Rattle.std.proofs.Common.{◌≡◌, length}
use Rattle.scenario_read.specs.Timing.{offset_after}
use Rattle.scenario_read.proofs.Loop.{GoesOn}
use Rattle.scenario_read.proofs.timing.offsets_after.Given as goal

abbrev pub invariant-loop-value : goal.invariant-loop-value
invariant-loop-value l = record {
  count : length l.offsets.items ≡ l.value-index;
  meaning : GoesOn 7 (offset_after l.skew) l.offsets.items l.values l.value-index;
}
