use Rattle.std.proofs.Common.{◌≡◌, ◌-◌, length}
use Rattle.std.specs.List.{fold}
use Rattle.net_run.specs.Peaks.{higher}
use Rattle.net_run.proofs.Loads.{peaks_in}
use Rattle.net_run.proofs.peak.Peak.or_higher.Given as goal

-- the rest of the row decides
abbrev pub invariant-loop-k : goal.invariant-loop-k
invariant-loop-k l = fold higher l.peak (peaks_in l.row l.k (length l.row - l.k)) ≡ fold higher l.fn.self (peaks_in l.row 0 (length l.row))
