-- What stands in no run's way.
use Rattle.std.specs.Prelude.{◌≡◌, ℕ, ◌≤◌, List, map, length, sum_by, All, Ok}
use Rattle.tiger_base.specs.Limits.{most_file}
use Rattle.outside.specs.Told.{Told, bytes, FilesState}
use Rattle.outside.specs.Written.{SinkState}
use Rattle.scenario_read.specs.Meaning.{Said, meaning}
use Rattle.tiger_input.specs.Words.{IsRun}
use Rattle.tiger_input.specs.Inputs.{names_of, most_scenario, most_files}

-- the scenario of this name is told and breaks no rule, and all files that it names are told, each
-- within the limits and none empty
pub record IsRunnable (told : List ℕ → Told) (name : List ℕ) : Type 0 where
  pub scenario : List ℕ
  pub is_told : told name ≡ bytes scenario
  pub is_short : length scenario ≤ most_scenario
  pub said : Said
  pub is_sound : meaning scenario ≡ Ok said
  pub files : List (List ℕ)
  pub are_told : map told (names_of said.files) ≡ map bytes files
  pub are_short : All (λ file. length file ≤ most_file) files
  pub are_few : sum_by length files ≤ most_files
  pub are_filled : All (λ file. 1 ≤ length file) files

-- no call of the source failed
abbrev pub NoReadFailed : FilesState → FilesState → Type 0
NoReadFailed old new = new.counts.faults ≡ old.counts.faults

-- no put failed
abbrev pub NoPutFailed : SinkState → SinkState → Type 0
NoPutFailed old new = new.faults ≡ old.faults

-- the words are the command to run a scenario that is runnable
pub record IsRunnableCommand (told : List ℕ → Told) (words : List (List ℕ)) : Type 0 where
  pub name : List ℕ
  pub workers : ℕ
  pub asked : IsRun words name workers
  pub runnable : IsRunnable told name
