use Rattle.std.proofs.Common.{◌≡◌, drop}
use Rattle.run_model.specs.Tests.{rises_from}
use Rattle.run_model.proofs.timing.rises.Given as goal

-- what is left decides, from the last stamp on
abbrev pub invariant-loop-e : goal.invariant-loop-e
invariant-loop-e l = rises_from (record { beat = 0; reading = 0 }) l.journal ≡ rises_from l.last (drop l.e-index l.journal)
