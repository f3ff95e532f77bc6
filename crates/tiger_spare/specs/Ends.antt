-- How the command ends, and of which run what is kept is.
use Rattle.std.specs.Prelude.{◌≡◌, ℕ, ◌+◌, ◌≤◌, Bool, false, true, List, length, is_some, Option, Some, Ok, ◌⊎◌}
use Rattle.std.specs.List.{list_any}
use Rattle.node_kit.specs.declared.course.Kept.{Kept}
use Rattle.outside.specs.Told.{Told, bytes, FilesState}
use Rattle.scenario_read.specs.declared.scenario.Scenario.{Scenario}
use Rattle.scenario_read.specs.declared.stop.ScenarioFault.{ScenarioFault}
use Rattle.scenario_read.specs.Fault.{broken}
use Rattle.scenario_read.specs.Meaning.{Said, meaning}
use Rattle.scenario_read.specs.Sound.{IsScenario}
use Rattle.run_claims.specs.Accounts.{account_of}
use Rattle.spare_claims.specs.Claims.{MeetsSpareClaims}
use Rattle.spare_ring.specs.Runs.{IsSpareRun}
use Rattle.tiger_input.specs.declared.inputs.Inputs.{Inputs}
use Rattle.tiger_input.specs.declared.status.Status.{Status}
use Rattle.tiger_input.specs.declared.status.Status.TheVariants as statuses
use Rattle.tiger_input.specs.Inputs.{AreInputs, Breaks, FoundNone, HasEmptyFile, HasFailed, InputsCause, IsMissing, IsTooLong, IsUnread, MadeCalls, ReadAs, StopsAt, most_scenario, names_of}
use Rattle.tiger_input.specs.Runnable.{IsRunnable}
-- The words of the contracts of the other commands that run a scenario are passed on with them.
pub use Rattle.tiger_journal.specs.Answers.{IsAskedRun, IsNamedRun, IsTheAnswer, IsTheNamedRun, text_for}

-- ---- why an input was refused

-- a scenario lets a cub die
abbrev pub lets_die : List (Option ℕ) → Bool
lets_die deaths = list_any (λ death. is_some death) deaths

-- what was read of it lets one die: that breaks the rule behind all others of a scenario, and ahead of that of its files
abbrev pub DiesInIt : List ℕ → FilesState → FilesState → ScenarioFault → Type 0
DiesInIt name old new fault =
    MadeCalls 1 old new × (fault ≡ broken 14 0) × ReadAs (old.told name) (λ said. lets_die said.deaths ≡ true)

-- what was read of it lets none die, and says something of which this holds
abbrev pub ReadCalmAs : Told → (Said → Type 0) → Type 0
ReadCalmAs scenario P = ReadAs scenario (λ said. (lets_die said.deaths ≡ false) × P said)

-- such a scenario of this name was read, and then its files before file f, which was not
abbrev pub StopsAtCalmFile : (List ℕ → Told) → List ℕ → ℕ → (ℕ → Told → Type 0) → Type 0
StopsAtCalmFile told name f P = ReadCalmAs (told name) (λ said. StopsAt told (names_of said.files) f P)

-- Why an input was refused: as for a run, but that a scenario that lets a cub die is refused for that, before a file of it is
-- read.
abbrev pub SpareCause : List ℕ → FilesState → FilesState → Status → Type 0
SpareCause name old new (statuses.Absent (Some f)) =
    MadeCalls (f.0 + 2) old new × FoundNone old new × StopsAtCalmFile old.told name f.0 IsMissing
SpareCause name old new (statuses.ReadFault (Some f)) =
    MadeCalls (f.0 + 2) old new × HasFailed old new × StopsAtCalmFile old.told name f.0 IsUnread
SpareCause name old new (statuses.TooLong (Some f) given most) =
    MadeCalls (f.0 + 2) old new × StopsAtCalmFile old.told name f.0 (IsTooLong given most)
SpareCause name old new (statuses.Scenario fault) =
    (MadeCalls 1 old new × Breaks (old.told name) fault)
    ⊎ (DiesInIt name old new fault ⊎ ReadCalmAs (old.told name) (HasEmptyFile old new fault))
SpareCause name old new status = InputsCause name old new status

-- how the command ends: an input was refused, or all were read
abbrev pub EndsSpare : List ℕ → FilesState → FilesState → Status → Type 0
EndsSpare name old new statuses.Done = Unit {0}
EndsSpare name old new statuses.WriteFault = Unit {0}
EndsSpare name old new status = SpareCause name old new status

-- ---- what is told

-- the scenario of this name is told with its files, breaks no rule, and lets no cub die
pub record IsRunnableSpare (told : List ℕ → Told) (name : List ℕ) : Type 0 where
  pub runnable : IsRunnable told name
  pub calm : lets_die runnable.said.deaths ≡ false

-- it is told, and breaks no rule but that it lets a cub die
pub record IsDeadly (told : List ℕ → Told) (name : List ℕ) : Type 0 where
  pub scenario : List ℕ
  pub is_told : told name ≡ bytes scenario
  pub is_short : length scenario ≤ most_scenario
  pub said : Said
  pub is_sound : meaning scenario ≡ Ok said
  pub dies : lets_die said.deaths ≡ true

-- ---- what is kept

-- A ring whose cubs know of their disks' deaths ran for a scenario, which breaks no rule and lets no cub die, and its files,
-- and this is kept of it. Whatever the scenario starts, stops and fails to read, and whichever disks die, it meets all claims.
pub record IsSpareRunOf (G : Type 0) (s : Scenario) (library : List (List ℕ)) (k : Kept) : Type 0 where
  pub sound : IsScenario s
  pub ran : IsSpareRun G s library k
  pub claims : MeetsSpareClaims (account_of k)

-- the scenario of this name was read, and then its files, with one call for each, and such a ring ran for them
pub record IsNamedSpare (G : Type 0) (old new : FilesState) (name : List ℕ) (k : Kept) : Type 0 where
  pub inputs : Inputs
  pub read : AreInputs old.told name inputs
  pub calls : MadeCalls (1 + length inputs.scenario.files) old new
  pub run : IsSpareRunOf G inputs.scenario inputs.library k
