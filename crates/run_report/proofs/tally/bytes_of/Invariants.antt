use Rattle.std.proofs.Common.{◌≡◌, ◌+◌, drop}
use Rattle.run_report.specs.Text.{bytes_of}
use Rattle.run_report.proofs.tally.bytes_of.Given as goal

-- what was counted and what is left are all
abbrev pub invariant-loop-block : goal.invariant-loop-block
invariant-loop-block l = l.bytes + bytes_of (drop l.block-index l.blocks) ≡ bytes_of l.blocks
