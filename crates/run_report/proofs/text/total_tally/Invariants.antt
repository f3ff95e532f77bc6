use Rattle.std.proofs.Common.{◌≡◌, drop}
use Rattle.run_report.specs.Text.{plus, total_tally}
use Rattle.run_report.proofs.text.total_tally.Given as goal

-- what was counted and what is left are all
abbrev pub invariant-loop-out : goal.invariant-loop-out
invariant-loop-out l = plus l.tally (total_tally (drop l.out-index l.outcomes)) ≡ total_tally l.outcomes
