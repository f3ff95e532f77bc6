-- Why a scenario or a file of it was refused, and what lets none be refused, in terms of what files in memory tell.
use Rattle.std.proofs.Common.{◌≡◌, ℕ, List, Some, None, subst, arith, inl, inr}
use Rattle.outside.specs.Told.{Told, bytes, absent}
use Rattle.outside.specs.Memory.{MemoryFiles, Entries, source_of, told_of}
use Rattle.scenario_read.specs.declared.stop.ScenarioFault.{ScenarioFault}
use Rattle.scenario_read.specs.Meaning.{Said}
use Rattle.tiger_input.specs.declared.status.Status.{Status}
use Rattle.tiger_input.specs.declared.status.Status.TheVariants as statuses
use Rattle.tiger_input.specs.Words.{IsRun}
use Rattle.tiger_input.specs.Inputs.{names_of, ReadAs, Breaks, StopsAt, IsMissing, IsTooLong, HasEmptyFile, InputsCause}
use Rattle.tiger_input.specs.Runnable.{IsRunnableCommand}
use Rattle.tiger_input.specs.Ending.{InputCause}
use Rattle.tiger_input.proofs.WordLists.{IsRun-name}
use Rattle.promises.specs.Calls.{IsAllTold, IsToldScenario, IsFileOf, IsEmptyFile, IsBroken, IsCause}
use Rattle.tiger_input.specs.Tellings.{AreMoreThan}
use Rattle.tiger_input.proofs.Told.{is_told, is_absent, has_bytes, are_told}

-- what was read of a scenario is told of it
told_scenario : (entries : Entries) (name : List ℕ) (P Q : Said → Type 0) → ((said : Said) → P said → Q said)
    → ReadAs (told_of entries name) P → IsToldScenario entries name Q
told_scenario entries name P Q from read = record {
  text = read.bytes;
  is_told = is_told entries name read.bytes read.read.0;
  said = read.said;
  means = read.means;
  holds = from read.said read.holds;
}

more_than : (entries : Entries) (name : List ℕ) (given most limit : ℕ) → IsTooLong given most limit (told_of entries name)
    → AreMoreThan most (told_of entries name)
more_than entries name given most limit long =
    let has = has_bytes entries name given long.2 in
    (has.0, has.1, omega (arith, long.1, has.2))

absent_file : (entries : Entries) (f : ℕ) (said : Said) → StopsAt (told_of entries) (names_of said.files) f IsMissing
    → IsFileOf entries f (λ told. told ≡ absent) said
absent_file entries f said stop = (stop.name, stop.named, is_absent entries stop.name stop.why)

long_file : (entries : Entries) (f given most : ℕ) (said : Said)
    → StopsAt (told_of entries) (names_of said.files) f (IsTooLong given most) → IsFileOf entries f (AreMoreThan most) said
long_file entries f given most said stop = (stop.name, stop.named, more_than entries stop.name given most _ stop.why)

empty_file : (old new : MemoryFiles) (fault : ScenarioFault) (said : Said)
    → HasEmptyFile (source_of old) (source_of new) fault said → IsEmptyFile old.entries fault said
empty_file old new fault said empty =
    (empty.1, are_told old.entries (names_of said.files) empty.1 empty.2.0.first empty.2.1, empty.3)

is_broken : (entries : Entries) (name : List ℕ) (fault : ScenarioFault) → Breaks (told_of entries name) fault
    → IsBroken entries name fault
is_broken entries name fault breaks = (breaks.bytes, is_told entries name breaks.bytes breaks.read.0, breaks.means)

module _ (old new : MemoryFiles) (name : List ℕ) where
  inputs_cause : (status : Status) → InputsCause name (source_of old) (source_of new) status → IsCause old new name status
  inputs_cause (statuses.Absent None) cause = is_absent old.entries name cause.2
  inputs_cause (statuses.Absent (Some f)) cause = told_scenario old.entries name _ _ (absent_file old.entries f.0) cause.2
  inputs_cause (statuses.ReadFault None) cause = cause.1
  inputs_cause (statuses.ReadFault (Some f)) cause = cause.1
  inputs_cause (statuses.TooLong None given most) cause = more_than old.entries name given most _ cause.1
  inputs_cause (statuses.TooLong (Some f) given most) cause =
      told_scenario old.entries name _ _ (long_file old.entries f.0 given most) cause.1
  inputs_cause (statuses.Scenario fault) (inl cause) = inl (is_broken old.entries name fault cause.1)
  inputs_cause (statuses.Scenario fault) (inr cause) =
      inr (told_scenario old.entries name _ _ (empty_file old new fault) cause)
  inputs_cause statuses.Done cause = tt
  inputs_cause statuses.Words cause = tt
  inputs_cause statuses.WriteFault cause = tt
  inputs_cause statuses.NoMemory cause = tt

  named_cause : (words : List (List ℕ)) (workers : ℕ) (status : Status) → IsRun words name workers
      → (other : List ℕ) × (more : ℕ) × IsRun words other more × InputsCause other (source_of old) (source_of new) status
      → IsCause old new name status
  named_cause words workers status run why =
      let same : why.0 ≡ name = IsRun-name words why.0 name why.1 workers why.2 run in
      inputs_cause status (subst (λ (n : List ℕ). InputsCause n (source_of old) (source_of new) status) same why.3)

  pub why_refused : (words : List (List ℕ)) (workers : ℕ) (status : Status) → IsRun words name workers
      → InputCause words (source_of old) (source_of new) status → IsCause old new name status
  why_refused words workers (statuses.Absent file) run cause = named_cause words workers (statuses.Absent file) run cause
  why_refused words workers (statuses.ReadFault file) run cause =
      named_cause words workers (statuses.ReadFault file) run cause
  why_refused words workers (statuses.Scenario fault) run cause =
      named_cause words workers (statuses.Scenario fault) run cause
  why_refused words workers (statuses.TooLong file given most) run cause =
      named_cause words workers (statuses.TooLong file given most) run cause
  why_refused words workers statuses.Done run cause = tt
  why_refused words workers statuses.Words run cause = tt
  why_refused words workers statuses.WriteFault run cause = tt
  why_refused words workers statuses.NoMemory run cause = tt

-- a scenario that is told with all its files can be run
pub runnable : (entries : Entries) (words : List (List ℕ)) (name : List ℕ) (workers : ℕ) → IsRun words name workers
    → IsAllTold entries name → IsRunnableCommand (told_of entries) words
runnable entries words name workers run all = record {
  name = name;
  workers = workers;
  asked = run;
  runnable = record {
    scenario = all.text;
    is_told = all.is_told;
    is_short = all.is_short;
    said = all.said;
    is_sound = all.means;
    files = all.library;
    are_told = all.are_told;
    are_short = all.are_short;
    are_few = all.are_few;
    are_filled = all.are_filled;
  };
}
