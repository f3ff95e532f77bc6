use Rattle.std.proofs.Common.{◌≡◌, drop}
use Rattle.run_report.specs.Text.{plus, tally_of}
use Rattle.run_report.proofs.tally.Tally.of.Given as goal

-- what was counted and what is left are all
abbrev pub invariant-loop-block : goal.invariant-loop-block
invariant-loop-block l = plus l.tally (tally_of (drop l.block-index l.blocks)) ≡ tally_of l.blocks
