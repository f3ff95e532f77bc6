-- How a call of the program ends.
use Rattle.std.specs.Prelude.{◌≡◌, ℕ, ◌+◌, List, Option, Some, None, IsSomeAnd}
use Rattle.outside.specs.Told.{FilesState}
use Rattle.outside.specs.Written.{SinkState, Appended, FrontAppended}
use Rattle.outside.specs.declared.sink.SinkFault.{SinkFault}
use Rattle.outside.specs.declared.sink.SinkFault.TheVariants as faults
use Rattle.node_kit.specs.declared.course.Kept.{Kept}
use Rattle.tiger_input.specs.declared.status.Status.{Status}
use Rattle.tiger_input.specs.declared.status.Status.TheVariants as statuses
use Rattle.tiger_input.specs.Words.{IsRun}
use Rattle.tiger_input.specs.Inputs.{InputsCause}

-- ---- what is written

-- this text was written
abbrev pub IsWritten : SinkState → SinkState → List ℕ → Type 0
IsWritten old new text = Appended old.written new.written text

-- a front of this text was written
abbrev pub IsBegun : SinkState → SinkState → List ℕ → Type 0
IsBegun old new text = FrontAppended old.written new.written text

-- one more put failed
abbrev pub PutFailed : SinkState → SinkState → Type 0
PutFailed old new = new.faults ≡ old.faults + 1

-- want of memory: nothing was written, or a front of the text of what was kept
abbrev pub OutOfMemory : SinkState → SinkState → (Kept → List ℕ) → Option Kept → Type 0
OutOfMemory old new text None = new.written ≡ old.written
OutOfMemory old new text (Some kept) = IsBegun old new (text kept)

-- what was written with each status, and what is kept: of words or inputs that are refused nothing
-- is written, and nothing kept
abbrev pub EndsSink : SinkState → SinkState → (Kept → List ℕ) → Option Kept → Status → Type 0
EndsSink old new text kept statuses.Done = IsSomeAnd kept (λ k. IsWritten old new (text k))
EndsSink old new text kept statuses.WriteFault =
    PutFailed old new × IsSomeAnd kept (λ k. IsBegun old new (text k))
EndsSink old new text kept statuses.NoMemory = OutOfMemory old new text kept
EndsSink old new text kept _ = (new.written ≡ old.written) × (kept ≡ None)

-- ---- why an input was refused

-- the words name a scenario, and this is why it, or one of its files, was refused
abbrev pub IsRefused : List (List ℕ) → FilesState → FilesState → Status → Type 0
IsRefused words old new status =
    (name : List ℕ) × (workers : ℕ) × IsRun words name workers × InputsCause name old new status

-- each status that refuses an input has its cause
abbrev pub InputCause : List (List ℕ) → FilesState → FilesState → Status → Type 0
InputCause words old new (statuses.Absent file) = IsRefused words old new (statuses.Absent file)
InputCause words old new (statuses.ReadFault file) =
    IsRefused words old new (statuses.ReadFault file)
InputCause words old new (statuses.Scenario fault) =
    IsRefused words old new (statuses.Scenario fault)
InputCause words old new (statuses.TooLong file given most) =
    IsRefused words old new (statuses.TooLong file given most)
InputCause words old new _ = Unit {0}

-- the words or an input were refused
abbrev pub IsRefusal : Status → Type 0
IsRefusal statuses.Done = ⊥
IsRefusal statuses.WriteFault = ⊥
IsRefusal statuses.NoMemory = ⊥
IsRefusal _ = Unit {0}

-- ---- parts of it

-- how the run of a named scenario ends: an input was refused, or all were read
abbrev pub EndsInputs : List ℕ → FilesState → FilesState → Status → Type 0
EndsInputs name old new statuses.Done = Unit {0}
EndsInputs name old new statuses.WriteFault = Unit {0}
EndsInputs name old new status = InputsCause name old new status

-- why a text was not put whole, piece by piece: a front of it was written
abbrev pub TextCause : SinkState → SinkState → List ℕ → SinkFault → Type 0
TextCause old new text faults.Failed = PutFailed old new × IsBegun old new text
TextCause old new text faults.NoMemory = (new.faults ≡ old.faults) × IsBegun old new text

-- how the writing of a text ended, and that the run is kept
abbrev pub Wrote : SinkState → SinkState → List ℕ → Status → Type 0
Wrote old new text statuses.Done = IsWritten old new text
Wrote old new text statuses.WriteFault = PutFailed old new × IsBegun old new text
Wrote old new text statuses.NoMemory = IsBegun old new text
Wrote old new text _ = ⊥
