use Rattle.std.proofs.Common.{◌≡◌, length}
use Rattle.scenario_read.specs.Deaths.{death_after}
use Rattle.scenario_read.proofs.Loop.{GoesOn}
use Rattle.scenario_read.proofs.deaths.deaths_after.Given as goal

abbrev pub invariant-loop-value : goal.invariant-loop-value
invariant-loop-value l = record {
  count : length l.deaths.items ≡ l.value-index;
  meaning : GoesOn 11 (death_after l.cubs l.beats) l.deaths.items l.values l.value-index;
}
