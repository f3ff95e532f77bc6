use Rattle.std.proofs.Common.{◌≡◌, ◌++◌, take}
use Rattle.run_report.specs.Text.{spaced}
use Rattle.run_report.proofs.text.push_spaced.Given as goal

-- the numbers so far
abbrev pub invariant-loop-beat : goal.invariant-loop-beat
invariant-loop-beat l = l.text.items ≡ l.fn.text.items ++ spaced (take l.beat-index l.beats)
