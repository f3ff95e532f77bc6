use Rattle.std.proofs.Common.{◌≡◌, take, drop}
use Rattle.std.specs.List.{flat_map}
use Rattle.run_report.specs.Text.{outcome_lines, total_tally, Fits}
use Rattle.run_report.proofs.text.outcomes_text.Given as goal

-- the lines so far, and the counts of what is left
abbrev pub invariant-loop-out : goal.invariant-loop-out
invariant-loop-out l = record {
  lines : l.text.items ≡ flat_map (outcome_lines l.digests) (take l.out-index l.outcomes);
  left : Fits (total_tally (drop l.out-index l.outcomes));
}
