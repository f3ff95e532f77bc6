use Rattle.std.proofs.Common.{◌≡◌, ◌++◌, take}
use Rattle.std.specs.List.{flat_map}
use Rattle.run_report.specs.Text.{block_line}
use Rattle.run_report.proofs.text.push_blocks.Given as goal

-- the lines so far
abbrev pub invariant-loop-block : goal.invariant-loop-block
invariant-loop-block l = l.text.items ≡ l.fn.text.items ++ flat_map block_line (take l.block-index l.blocks)
