-- What is claimed of whatever is kept of the run of a scenario in which disks may die.
use Rattle.std.specs.Prelude.{ℕ, List}
use Rattle.node_kit.specs.declared.course.Kept.{Kept}
use Rattle.run_claims.specs.Accounts.{account_of}
use Rattle.scenario_read.specs.declared.scenario.Scenario.{Scenario}
use Rattle.scenario_read.specs.Sound.{IsScenario}
use Rattle.spare_claims.specs.Claims.{MeetsSpareClaims}
use Rattle.spare_ring.specs.Runs.{IsSpareRun}
use Rattle.proof_ring.specs.Runs.{AreShort}

-- Whatever a scenario starts, stops and fails to read, and whichever disks die in it: what is kept of its run over its files
-- meets all claims.
abbrev pub KeptSpareRunsMeetTheClaims : (G : Type 0) → Type 0
KeptSpareRunsMeetTheClaims G =
    (s : Scenario) (library : List (List ℕ)) (k : Kept)
    → IsScenario s → AreShort library → IsSpareRun G s library k
    → MeetsSpareClaims (account_of k)
