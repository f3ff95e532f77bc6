use Rattle.std.proofs.Common.{◌≡◌, length, take}
use Rattle.run_report.specs.Digests.{digests_of}
use Rattle.run_report.specs.Turns.{AreFilled}
use Rattle.run_report.proofs.digest.digests_of.Given as goal

-- the digests of the starts whose turns are over stand at their places
abbrev pub invariant-loop-turn : goal.invariant-loop-turn
invariant-loop-turn l = record {
  library : l.fronts.library ≡ l.library;
  len : length l.digests.items ≡ length l.outcomes;
  filled : AreFilled (digests_of l.library l.outcomes) l.digests.items (take l.turn-index l.turn-items);
}
