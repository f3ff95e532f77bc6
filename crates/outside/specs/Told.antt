-- What a source of files tells of a name, what it counts, and why a file was not read.
use Rattle.std.specs.Prelude.{◌≡◌, ℕ, ◌^◌, ◌<◌, ◌≤◌, Bool, true, false, List, length, Result, Err}
use Rattle.outside.specs.declared.files.FileFault.{FileFault}
use Rattle.outside.specs.declared.files.FileFault.TheVariants.{Failed, Absent, TooLong, NoMemory}

-- a name's bytes, or that there is no such file, or nothing
pub data Told : Type 0 where
  bytes : List ℕ → Told
  absent : Told
  untold : Told

-- if something is told, it is these bytes
abbrev pub AreTold : Told → List ℕ → Type 0
AreTold (bytes b) given = given ≡ b
AreTold absent given = ⊥
AreTold untold given = Unit {0}

-- no bytes are told
abbrev pub NoneTold : Told → Type 0
NoneTold (bytes b) = ⊥
NoneTold absent = Unit {0}
NoneTold untold = Unit {0}

-- if something is told, it is at least so many bytes
abbrev pub HasBytes : Told → ℕ → Type 0
HasBytes (bytes b) given = given ≤ length b
HasBytes absent given = ⊥
HasBytes untold given = Unit {0}

-- the calls so far, the faults among them, and those that found no file
pub record Counts : Type 0 where
  pub calls : ℕ
  pub faults : ℕ
  pub absences : ℕ

-- before the first call
abbrev pub none_yet : Counts
none_yet = record { calls = 0; faults = 0; absences = 0 }

-- no count fell
pub record NeverFell (old new : Counts) : Type 0 where
  pub calls : old.calls ≤ new.calls
  pub faults : old.faults ≤ new.faults
  pub absences : old.absences ≤ new.absences

-- the answer is that reading failed
abbrev pub is_failed : {A : Type 0} → Result A FileFault → Bool
is_failed (Err Failed) = true
is_failed _ = false

-- a source of files: what it tells of each name, and what it counted
pub record FilesState : Type 0 where
  pub told : List ℕ → Told
  pub counts : Counts

-- how many calls a source can have had before the next one
abbrev pub most_calls : ℕ
most_calls = 2 ^ 33

-- why a file was not read, if at most so many of its bytes were asked for
abbrev pub HasCause : List ℕ → ℕ → FilesState → FilesState → FileFault → Type 0
HasCause name most old new Failed = old.counts.faults < new.counts.faults
HasCause name most old new Absent =
    (old.counts.absences < new.counts.absences) × NoneTold (old.told name)
HasCause name most old new (TooLong given) = (most < given) × HasBytes (old.told name) given
HasCause name most old new NoMemory = Unit {0}
