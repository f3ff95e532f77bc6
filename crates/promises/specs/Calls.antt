-- What a call asks for, what it needs, and why it is refused, in terms of what files in memory tell.
use Rattle.std.specs.Prelude.{◌≡◌, ℕ, ◌<◌, ◌≤◌, ◌==◌, ◌^◌, List, [], ◌∷◌, map, length, sum_by, All}
use Rattle.std.specs.Prelude.{Some, None, option_map, Ok, Err, slice_get, codes, ◌⊎◌}
use Rattle.std.specs.Fmt.{decimal}
use Rattle.std.specs.List.{position}
use Rattle.tiger_base.specs.Limits.{most_file}
use Rattle.scenario_read.specs.declared.stop.ScenarioFault.{ScenarioFault}
use Rattle.scenario_read.specs.Fault.{broken}
use Rattle.scenario_read.specs.Meaning.{Said, meaning}
use Rattle.outside.specs.Told.{Told, bytes, absent}
use Rattle.outside.specs.Memory.{MemoryFiles, Entries, told_of}
use Rattle.tiger_input.specs.declared.status.Status.{Status}
use Rattle.tiger_input.specs.declared.status.Status.TheVariants as statuses
use Rattle.tiger_input.specs.Inputs.{most_scenario, most_files, names_of}
use Rattle.tiger_input.specs.Tellings.{AreMoreThan}

-- ---- the words

-- the words `run NAME W`, with W from 1 to 64
abbrev pub AskForRun : List (List ℕ) → List ℕ → ℕ → Type 0
AskForRun words name workers =
    (words ≡ codes "run" ∷ name ∷ decimal workers ∷ []) × (1 ≤ workers) × (workers ≤ 64)

-- the words `make NUMBER`, with a number of 64 bits
abbrev pub AskForMade : List (List ℕ) → ℕ → Type 0
AskForMade words number = (words ≡ codes "make" ∷ decimal number ∷ []) × (number < 2 ^ 64)

-- the words name no scenario
abbrev pub AskForNoRun : List (List ℕ) → Type 0
AskForNoRun words = (name : List ℕ) (workers : ℕ) → ¬ AskForRun words name workers

-- the words are neither command
abbrev pub AskForNothing : List (List ℕ) → Type 0
AskForNothing words = AskForNoRun words × ((number : ℕ) → ¬ AskForMade words number)

-- ---- what a run needs

-- The scenario of this name is told, is short enough and breaks no rule; and of each file that it
-- names the bytes are told, which are within the limits and not empty.
pub record IsAllTold (entries : Entries) (name : List ℕ) : Type 0 where
  pub text : List ℕ
  pub is_told : told_of entries name ≡ bytes text
  pub is_short : length text ≤ most_scenario
  pub said : Said
  pub means : meaning text ≡ Ok said
  pub library : List (List ℕ)
  pub are_told : map (told_of entries) (names_of said.files) ≡ map bytes library
  pub are_short : All (λ file. length file ≤ most_file) library
  pub are_few : sum_by length library ≤ most_files
  pub are_filled : All (λ file. 1 ≤ length file) library

-- ---- why it is refused

-- the words or an input were refused
abbrev pub IsRefused : Status → Type 0
IsRefused statuses.Done = ⊥
IsRefused statuses.WriteFault = ⊥
IsRefused statuses.NoMemory = ⊥
IsRefused _ = Unit {0}

-- the scenario of this name is told and breaks no rule, and this holds of what it says
pub record IsToldScenario (entries : Entries) (name : List ℕ) (P : Said → Type 0) : Type 0 where
  pub text : List ℕ
  pub is_told : told_of entries name ≡ bytes text
  pub said : Said
  pub means : meaning text ≡ Ok said
  pub holds : P said

-- this holds of what is told of the file of a number that a scenario names
abbrev pub IsFileOf : Entries → ℕ → (Told → Type 0) → Said → Type 0
IsFileOf entries file P said =
    (name : List ℕ) × (slice_get (names_of said.files) file ≡ Some name) × P (told_of entries name)

-- the bytes of the files are told, and the first empty one breaks the rule that no file is empty
abbrev pub IsEmptyFile : Entries → ScenarioFault → Said → Type 0
IsEmptyFile entries fault said =
    (library : List (List ℕ))
    × (map (told_of entries) (names_of said.files) ≡ map bytes library)
    × (option_map (λ f. broken 13 f) (position (λ file. length file == 0) library) ≡ Some fault)

-- the told bytes break this rule of a scenario
abbrev pub IsBroken : Entries → List ℕ → ScenarioFault → Type 0
IsBroken entries name fault =
    (text : List ℕ) × (told_of entries name ≡ bytes text) × (meaning text ≡ Err fault)

-- why the scenario of this name, or one of its files, was refused
abbrev pub IsCause : MemoryFiles → MemoryFiles → List ℕ → Status → Type 0
IsCause old new name (statuses.Absent None) = told_of old.entries name ≡ absent
IsCause old new name (statuses.Absent (Some file)) =
    IsToldScenario old.entries name (IsFileOf old.entries file.0 (λ told. told ≡ absent))
IsCause old new name (statuses.ReadFault file) = old.counts.faults < new.counts.faults
IsCause old new name (statuses.TooLong None given most) =
    AreMoreThan most (told_of old.entries name)
IsCause old new name (statuses.TooLong (Some file) given most) =
    IsToldScenario old.entries name (IsFileOf old.entries file.0 (AreMoreThan most))
IsCause old new name (statuses.Scenario fault) =
    IsBroken old.entries name fault
    ⊎ IsToldScenario old.entries name (IsEmptyFile old.entries fault)
IsCause old new name _ = Unit {0}
