use Rattle.std.proofs.Common.{◌≡◌, drop}
use Rattle.run_model.specs.Tests.{ends_in_death}
use Rattle.run_model.proofs.timing.ends_in_death.Given as goal

-- what is left decides
abbrev pub invariant-loop-i : goal.invariant-loop-i
invariant-loop-i l = ends_in_death l.end l.journal ≡ ends_in_death l.end (drop l.i l.journal)
