-- What is claimed of whatever is kept of the run of a scenario.
use Rattle.std.specs.Prelude.{ℕ, List}
use Rattle.node_kit.specs.declared.course.Kept.{Kept}
use Rattle.run_claims.specs.Accounts.{account_of}
use Rattle.run_claims.specs.Claims.{MeetsClaims}
use Rattle.scenario_read.specs.declared.scenario.Scenario.{Scenario}
use Rattle.scenario_read.specs.Sound.{IsScenario}
use Rattle.ring_facts.specs.Rings.{IsRingRun}
use Rattle.proof_ring.specs.Runs.{AreShort}
use Rattle.proof_ring.specs.Beliefs.{BelievesInTime}

-- Whatever a scenario starts, stops, lets die, lets return and fails to read, whatever its delays and
-- clocks are: what is kept of its run over its files meets all claims.
abbrev pub KeptRunsMeetTheClaims : (G : Type 0) → Type 0
KeptRunsMeetTheClaims G =
    (s : Scenario) (library : List (List ℕ)) (k : Kept)
    → IsScenario s → AreShort library → IsRingRun G s library k
    → MeetsClaims (account_of k)

-- And in it whoever dies is believed dead in time, by the next cub if that one lives.
abbrev pub KeptRunsBelieveInTime : (G : Type 0) → Type 0
KeptRunsBelieveInTime G =
    (s : Scenario) (library : List (List ℕ)) (k : Kept)
    → IsScenario s → AreShort library → IsRingRun G s library k
    → BelievesInTime (account_of k)
