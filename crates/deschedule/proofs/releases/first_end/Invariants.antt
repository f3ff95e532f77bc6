use Rattle.std.proofs.Common.{take}
use Rattle.deschedule.specs.Holds.{AreFrom}
use Rattle.deschedule.proofs.releases.first_end.Given as goal

abbrev pub invariant-loop-place : goal.invariant-loop-place
invariant-loop-place l = AreFrom l.first (take l.place l.holds.items)
