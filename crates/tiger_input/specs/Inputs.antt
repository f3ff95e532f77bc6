-- What was read, and why an input was not read.
use Rattle.std.specs.Prelude.{◌≡◌, ℕ, ◌+◌, ◌-◌, ◌<◌, ◌≤◌, ◌==◌, ◌^◌, min, List, [], ◌∷◌, map, length, sum_by, All, Option, Some, None, option_map, Ok, Err, slice_get, ◌⊎◌}
use Rattle.std.specs.List.{position}
use Rattle.outside.specs.Told.{Told, FilesState, AreTold, NoneTold, HasBytes}
use Rattle.tiger_base.specs.Limits.{most_file}
use Rattle.tiger_base.specs.declared.number.FileNo.{FileNo}
use Rattle.scenario_read.specs.declared.stop.ScenarioFault.{ScenarioFault}
use Rattle.scenario_read.specs.declared.scenario.FileLine.{FileLine}
use Rattle.scenario_read.specs.Fault.{broken}
use Rattle.scenario_read.specs.Meaning.{Said, said_by, meaning}
use Rattle.tiger_input.specs.declared.inputs.Inputs.{Inputs}
use Rattle.tiger_input.specs.declared.status.Status.{Status}
use Rattle.tiger_input.specs.declared.status.Status.TheVariants as statuses

-- ---- the limits

-- how many bytes the scenario may have
abbrev pub most_scenario : ℕ
most_scenario = 4194304

-- how many bytes all files together may have
abbrev pub most_files : ℕ
most_files = 67108864

-- how many bytes the next file may have, after these
abbrev pub most_after : List (List ℕ) → ℕ
most_after before = min most_file (most_files - sum_by length before)

-- how many files a scenario names at most
abbrev pub most_named : ℕ
most_named = 64

-- how many files are read for one command at most: the scenario, and those that it names
abbrev pub most_reads : ℕ
most_reads = 65

-- how many calls a source of files can have had before a command
abbrev pub most_earlier : ℕ
most_earlier = 2 ^ 32

-- ---- the scenario and its files

-- the names of files, in order
abbrev pub names_of : List FileLine → List (List ℕ)
names_of lines = map (λ line. line.name) lines

-- these bytes were read of the scenario: they are told of it, and within its limit
abbrev pub IsRead : Told → List ℕ → Type 0
IsRead scenario bytes = AreTold scenario bytes × (length bytes ≤ most_scenario)

-- these are the told bytes of the first files
abbrev pub AreFirst : (List ℕ → Told) → List (List ℕ) → List (List ℕ) → Type 0
AreFirst told names [] = Unit {0}
AreFirst told [] (c ∷ cs) = ⊥
AreFirst told (n ∷ ns) (c ∷ cs) = AreTold (told n) c × AreFirst told ns cs

-- these bytes were read of the first files: they are told of them, each file is within the limit of
-- one, and together they are within that of all
pub record AreRead (told : List ℕ → Told) (names read : List (List ℕ)) : Type 0 where
  pub first : AreFirst told names read
  pub short : All (λ bytes. length bytes ≤ most_file) read
  pub few : sum_by length read ≤ most_files

-- these bytes were read of the files, of the last one too
abbrev pub AreFiles : (List ℕ → Told) → List (List ℕ) → List (List ℕ) → Type 0
AreFiles told names read = AreRead told names read × (length read ≡ length names)

-- the least file that has no bytes
abbrev pub first_empty : List (List ℕ) → Option ℕ
first_empty read = position (λ bytes. length bytes == 0) read

-- the rule that no file is empty, broken by the least one that is
abbrev pub files_fault : List (List ℕ) → Option ScenarioFault
files_fault read = option_map (λ f. broken 13 f) (first_empty read)

-- the scenario was read under this name, and then its files, none of which is empty
pub record AreInputs (told : List ℕ → Told) (name : List ℕ) (inputs : Inputs) : Type 0 where
  pub bytes : List ℕ
  pub read : IsRead (told name) bytes
  pub means : meaning bytes ≡ Ok (said_by inputs.scenario)
  pub files : AreFiles told (names_of inputs.scenario.files) inputs.library
  pub filled : first_empty inputs.library ≡ None

-- ---- what was counted

-- so many calls were made
abbrev pub MadeCalls : ℕ → FilesState → FilesState → Type 0
MadeCalls count old new = new.counts.calls ≡ old.counts.calls + count

-- a call failed
abbrev pub HasFailed : FilesState → FilesState → Type 0
HasFailed old new = old.counts.faults < new.counts.faults

-- a call found no file
abbrev pub FoundNone : FilesState → FilesState → Type 0
FoundNone old new = old.counts.absences < new.counts.absences

-- ---- where the reading stopped

-- file f was not read, but all files before it were; this holds of its limit and of what is told
pub record StopsAt (told : List ℕ → Told) (names : List (List ℕ)) (f : ℕ)
    (P : ℕ → Told → Type 0) : Type 0 where
  pub before : List (List ℕ)
  pub read : AreRead told names before
  pub count : length before ≡ f
  pub name : List ℕ
  pub named : slice_get names f ≡ Some name
  pub why : P (most_after before) (told name)

-- what was read of the scenario says something of which this holds
pub record ReadAs (scenario : Told) (P : Said → Type 0) : Type 0 where
  pub bytes : List ℕ
  pub read : IsRead scenario bytes
  pub said : Said
  pub means : meaning bytes ≡ Ok said
  pub holds : P said

-- what was read of the scenario breaks this rule
pub record Breaks (scenario : Told) (fault : ScenarioFault) : Type 0 where
  pub bytes : List ℕ
  pub read : IsRead scenario bytes
  pub means : meaning bytes ≡ Err fault

-- the scenario of this name was read, and then its files before file f, which was not
abbrev pub StopsAtFile : (List ℕ → Told) → List ℕ → ℕ → (ℕ → Told → Type 0) → Type 0
StopsAtFile told name f P =
    ReadAs (told name) (λ said. StopsAt told (names_of said.files) f P)

-- all files were read, and one of them is empty
abbrev pub HasEmptyFile : FilesState → FilesState → ScenarioFault → Said → Type 0
HasEmptyFile old new fault said =
    MadeCalls (1 + length said.files) old new
    × (read : List (List ℕ)) × AreFiles old.told (names_of said.files) read
    × (files_fault read ≡ Some fault)

-- ---- why an input was not read

-- nothing is told of it
abbrev pub IsMissing : ℕ → Told → Type 0
IsMissing limit input = NoneTold input

-- whatever is told of it: the call failed
abbrev pub IsUnread : ℕ → Told → Type 0
IsUnread limit input = Unit {0}

-- so many bytes were asked for, which is its limit, and it has these and more
abbrev pub IsTooLong : ℕ → ℕ → ℕ → Told → Type 0
IsTooLong given most limit input = (most ≡ limit) × (most < given) × HasBytes input given

-- why a scenario of this name, or one of its files, was refused: a call is made for the scenario,
-- and then, if it breaks no rule, one for each file up to the one that stops the reading
abbrev pub InputsCause : List ℕ → FilesState → FilesState → Status → Type 0
InputsCause name old new (statuses.Absent None) =
    MadeCalls 1 old new × FoundNone old new × IsMissing most_scenario (old.told name)
InputsCause name old new (statuses.Absent (Some f)) =
    MadeCalls (f.0 + 2) old new × FoundNone old new × StopsAtFile old.told name f.0 IsMissing
InputsCause name old new (statuses.ReadFault None) = MadeCalls 1 old new × HasFailed old new
InputsCause name old new (statuses.ReadFault (Some f)) =
    MadeCalls (f.0 + 2) old new × HasFailed old new × StopsAtFile old.told name f.0 IsUnread
InputsCause name old new (statuses.TooLong None given most) =
    MadeCalls 1 old new × IsTooLong given most most_scenario (old.told name)
InputsCause name old new (statuses.TooLong (Some f) given most) =
    MadeCalls (f.0 + 2) old new × StopsAtFile old.told name f.0 (IsTooLong given most)
InputsCause name old new (statuses.Scenario fault) =
    (MadeCalls 1 old new × Breaks (old.told name) fault)
    ⊎ ReadAs (old.told name) (HasEmptyFile old new fault)
InputsCause name old new statuses.NoMemory = Unit {0}
InputsCause name old new _ = ⊥

-- ---- parts of it

-- why one file was not read, of which so many bytes were asked for
abbrev pub OneCause : Option FileNo → List ℕ → ℕ → FilesState → FilesState → Status → Type 0
OneCause file name limit old new (statuses.Absent f) =
    (f ≡ file) × FoundNone old new × IsMissing limit (old.told name)
OneCause file name limit old new (statuses.ReadFault f) = (f ≡ file) × HasFailed old new
OneCause file name limit old new (statuses.TooLong f given most) =
    (f ≡ file) × IsTooLong given most limit (old.told name)
OneCause file name limit old new statuses.NoMemory = Unit {0}
OneCause file name limit old new _ = ⊥

abbrev pub Numbered : Option FileNo → (ℕ → Type 0) → Type 0
Numbered None P = ⊥
Numbered (Some f) P = P f.0

-- why one of the files was not read
abbrev pub FilesCause : List (List ℕ) → FilesState → FilesState → Status → Type 0
FilesCause names old new (statuses.Absent file) = Numbered file (λ f.
    MadeCalls (f + 1) old new × FoundNone old new × StopsAt old.told names f IsMissing)
FilesCause names old new (statuses.ReadFault file) = Numbered file (λ f.
    MadeCalls (f + 1) old new × HasFailed old new × StopsAt old.told names f IsUnread)
FilesCause names old new (statuses.TooLong file given most) = Numbered file (λ f.
    MadeCalls (f + 1) old new × StopsAt old.told names f (IsTooLong given most))
FilesCause names old new statuses.NoMemory = Unit {0}
FilesCause names old new _ = ⊥

-- why the files of a scenario were not read, or one of those that were is empty
abbrev pub LibraryCause : List FileLine → FilesState → FilesState → Status → Type 0
LibraryCause lines old new (statuses.Scenario fault) =
    MadeCalls (length lines) old new
    × (read : List (List ℕ)) × AreFiles old.told (names_of lines) read
    × (files_fault read ≡ Some fault)
LibraryCause lines old new status = FilesCause (names_of lines) old new status
