use Rattle.std.proofs.Common.{◌≡◌, map}
use Rattle.std.specs.List.{range_with_len}
use Rattle.run_report.specs.declared.turns.Turn.{Turn}
use Rattle.run_report.proofs.turns.turns_of.Given as goal

-- the places of the turns so far
abbrev pub invariant-loop-place : goal.invariant-loop-place
invariant-loop-place l = map (λ (t : Turn). t.place) l.turns.items ≡ range_with_len 0 l.place
