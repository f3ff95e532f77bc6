-- Of which run what is kept is, and which text is written of it.
use Rattle.std.specs.Prelude.{◌≡◌, ℕ, ◌+◌, Bool, false, if◌then◌else◌, List, [], ◌∷◌, length, codes, ◌⊎◌}
use Rattle.std.specs.Str.{bytes_eq}
use Rattle.outside.specs.Told.{FilesState}
use Rattle.node_kit.specs.declared.course.Kept.{Kept}
use Rattle.scenario_read.specs.declared.scenario.Scenario.{Scenario}
use Rattle.scenario_read.specs.Meaning.{said_by}
use Rattle.scenario_read.specs.Sound.{IsScenario}
use Rattle.scenario_make.specs.Made.{made_scenario, made_library}
use Rattle.run_report.specs.Text.{report_text, summary_text}
use Rattle.run_claims.specs.Accounts.{account_of}
use Rattle.run_claims.specs.Claims.{MeetsClaims}
use Rattle.tiger_input.specs.declared.inputs.Inputs.{Inputs}
use Rattle.tiger_input.specs.Words.{IsRun, IsMake}
use Rattle.tiger_input.specs.Inputs.{AreInputs, MadeCalls}
-- What a run of the ring is passed on with what is kept of it, so that no crate above names the
-- crates that prove it.
pub use Rattle.tiger_ring.specs.Runs.{IsRingRun, IsOnlyRun, IsWorld, BelievesInTime, BeliefsAreInTime}

-- ---- what is kept

-- The ring ran for a scenario, which breaks no rule, and its files, and this is kept of it. Nothing
-- else can be kept of such a run, and it is a list of events that the machine of the ring's nodes
-- accepts. Whatever the scenario starts, stops, lets die and fails to read, it meets all claims, and
-- whoever dies is believed dead in time.
pub record IsRunOf (G : Type 0) (s : Scenario) (library : List (List ℕ)) (k : Kept) : Type 0 where
  pub sound : IsScenario s
  pub ran : IsRingRun G s library k
  pub only : IsOnlyRun G s library k
  pub world : IsWorld G library k
  pub claims : MeetsClaims (account_of k)
  pub belief_in_time : BelievesInTime (account_of k)

-- the scenario of this name was read, and then its files, with one call for each, and the ring ran
-- for them
pub record IsNamedRun (G : Type 0) (old new : FilesState) (name : List ℕ) (k : Kept) : Type 0 where
  pub inputs : Inputs
  pub read : AreInputs old.told name inputs
  pub calls : MadeCalls (1 + length inputs.scenario.files) old new
  pub run : IsRunOf G inputs.scenario inputs.library k

-- the ring ran for the scenario and the files that are made of this number
pub record IsMadeRun (G : Type 0) (number : ℕ) (k : Kept) : Type 0 where
  pub scenario : Scenario
  pub made : said_by scenario ≡ made_scenario number
  pub run : IsRunOf G scenario (made_library number) k

-- the run is the one that the words ask for: that of the named scenario, or of the made one
abbrev pub IsAskedRun : (G : Type 0) → FilesState → FilesState → List (List ℕ) → Kept → Type 0
IsAskedRun G old new words k =
    ((name : List ℕ) × (workers : ℕ) × IsRun words name workers × IsNamedRun G old new name k)
    ⊎ ((number : ℕ) × IsMake words number × IsMadeRun G number k)

-- ---- what is written

-- the first word is `make`
abbrev pub begins_make : List (List ℕ) → Bool
begins_make [] = false
begins_make (word ∷ words) = bytes_eq word (codes "make")

-- the text that the words ask for: the report of a run, or of a made run the summary of its report
abbrev pub text_for : List (List ℕ) → Kept → List ℕ
text_for words k = if begins_make words then summary_text k else report_text k
