use Rattle.std.proofs.Common.{◌≡◌, ◌+◌, ◌≤◌, drop}
use Rattle.run_report.specs.Text.{all_placed}
use Rattle.run_report.proofs.text.all_placed.Given as goal

-- what was counted and what is left are all
abbrev pub invariant-loop-out : goal.invariant-loop-out
invariant-loop-out l = record {
  placed : l.placed + all_placed (drop l.out-index l.outcomes) ≡ all_placed l.outcomes;
  few : l.placed ≤ l.out-index;
}
