-- A scenario and its library determine what is kept of a run, and what a scenario says determines it.
use Rattle.std.specs.Prelude.{◌≡◌, ℕ, List}
use Rattle.node_kit.specs.declared.course.Kept.{Kept}
use Rattle.scenario_read.specs.declared.scenario.Scenario.{Scenario}
use Rattle.scenario_read.specs.Meaning.{said_by}
use Rattle.scenario_read.specs.Sound.{IsScenario}
use Rattle.ring_facts.specs.Rings.{IsRingRun}

-- Whatever ran the ring for a scenario over a library, the same is kept of it. No runner and no number of
-- workers is named here.
abbrev pub KeptRunsAreOne : (G : Type 0) → Type 0
KeptRunsAreOne G =
    (s : Scenario) (library : List (List ℕ)) (one two : Kept) → IsScenario s
    → IsRingRun G s library one → IsRingRun G s library two → one ≡ two

-- This is all that can be kept of a run of the ring for a scenario over a library.
abbrev pub IsOnlyRun : (G : Type 0) → Scenario → List (List ℕ) → Kept → Type 0
IsOnlyRun G s library k = (other : Kept) → IsRingRun G s library other → other ≡ k

-- Scenarios that say the same are the same: all that they keep besides is that their plans are sound.
abbrev pub ScenariosAreWhatTheySay : Type 0
ScenariosAreWhatTheySay = (s t : Scenario) → said_by s ≡ said_by t → s ≡ t
