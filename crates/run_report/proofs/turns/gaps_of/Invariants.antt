use Rattle.std.proofs.Common.{◌≡◌, ◌++◌, drop}
use Rattle.run_report.specs.Turns.{gaps_of}
use Rattle.run_report.proofs.turns.gaps_of.Given as goal

-- the gaps so far and those of the blocks that are left are all gaps
abbrev pub invariant-loop-i : goal.invariant-loop-i
invariant-loop-i l = l.gaps.items ++ gaps_of l.i (drop l.i l.blocks) ≡ gaps_of 0 l.blocks
