-- How the command ends.
use Rattle.std.specs.Prelude.{◌≡◌, ℕ, ◌≤◌, List, Option, None, length, ◌⊎◌}
use Rattle.node_kit.specs.declared.course.Kept.{Kept}
use Rattle.audit_text.specs.Texts.{text_of}
use Rattle.audit_read.specs.Begun.{IsFaultyAt}
use Rattle.audit_read.specs.Writable.{IsWritable}
use Rattle.audit_verdict.specs.Clauses.{MeetsAllClauses}
use Rattle.audit_verdict.specs.Counting.{AreCountsOf}
use Rattle.audit_verdict.specs.Telling.{IsLineOfPlace}
use Rattle.audit_verdict.specs.Verdicts.{IsFirstBroken}
use Rattle.audit_verdict.specs.declared.clause.Clause.{Clause}
use Rattle.audit_verdict.specs.declared.counts.Counts.{Counts}
use Rattle.audit_verdict.specs.declared.place.Place.{Place}
use Rattle.outside.specs.Told.{Told, bytes, AreTold, FilesState, HasCause}
use Rattle.outside.specs.Written.{SinkState}
use Rattle.outside.specs.declared.files.FileFault.TheVariants as files
use Rattle.tiger_input.specs.Ending.{IsWritten, IsBegun, PutFailed}
use Rattle.tiger_input.specs.declared.status.Status.TheVariants as statuses
use Rattle.tiger_audit.specs.Lines.{yes_text}
use Rattle.tiger_audit.specs.Statuses.{most_text}
use Rattle.tiger_audit.specs.declared.status.AuditStatus.{AuditStatus}
use Rattle.tiger_audit.specs.declared.status.AuditStatus.TheVariants as ends

-- ---- what was read

-- these bytes were read of a file: they are the told ones, if something is told, and within the limit
abbrev pub IsTextRead : Told → List ℕ → Type 0
IsTextRead file text = AreTold file text × (length text ≤ most_text)

-- what was read of a file is the text of this run, which has its numbers in their ranges
pub record IsKeptIn (file : Told) (k : Kept) : Type 0 where
  pub writable : IsWritable k
  pub read : IsTextRead file (text_of k)

-- what was read of a file is the text of a run of which this holds
pub record OfKeptRun (file : Told) (P : Kept → Type 0) : Type 0 where
  pub kept : Kept
  pub is : IsKeptIn file kept
  pub holds : P kept

-- what was read of a file is the text of no run, and this is the line to be named
pub record IsNoText (file : Told) (line : ℕ) : Type 0 where
  pub text : List ℕ
  pub read : IsTextRead file text
  pub faulty : IsFaultyAt text line

-- ---- what is said of a run

-- it meets all clauses, and this holds of the lines that say so
pub record OfYes (k : Kept) (P : List ℕ → Type 0) : Type 0 where
  pub meets : MeetsAllClauses k
  pub counts : Counts
  pub counted : AreCountsOf k counts
  pub holds : P (yes_text counts)

-- it breaks a clause, and none of a lower number, here, and this is the place's line in its text
abbrev pub IsBrokenAt : Clause → Place → Option ℕ → Kept → Type 0
IsBrokenAt c here line k = IsFirstBroken k c here × IsLineOfPlace k here line

-- ---- how the command ends

-- why there is no Yes; the words never are the cause, nor is a scenario, since there is none
abbrev pub AuditCause : List ℕ → FilesState → FilesState → AuditStatus → Type 0
AuditCause name old new (ends.Run (statuses.Absent file)) =
    (file ≡ None) × HasCause name most_text old new files.Absent
AuditCause name old new (ends.Run (statuses.ReadFault file)) =
    (file ≡ None) × HasCause name most_text old new files.Failed
AuditCause name old new (ends.Run (statuses.TooLong file given most)) =
    (file ≡ None) × (most ≡ most_text) × HasCause name most_text old new (files.TooLong given)
AuditCause name old new (ends.Run statuses.Words) = ⊥
AuditCause name old new (ends.Run (statuses.Scenario fault)) = ⊥
AuditCause name old new (ends.Run status) = Unit {0}
AuditCause name old new (ends.Journal line) = IsNoText (old.told name) line
AuditCause name old new (ends.Audit c here line) =
    OfKeptRun (old.told name) (IsBrokenAt c here line)

-- this holds of the lines that say Yes of the run whose text was read
abbrev pub OfYesRun : Told → (List ℕ → Type 0) → Type 0
OfYesRun file P = OfKeptRun file (λ k. OfYes k P)

-- what was written with each status: all of these lines, or a front of them, or nothing
abbrev pub AuditSink : Told → SinkState → SinkState → AuditStatus → Type 0
AuditSink file out new (ends.Run statuses.Done) = OfYesRun file (IsWritten out new)
AuditSink file out new (ends.Run statuses.WriteFault) =
    PutFailed out new × OfYesRun file (IsBegun out new)
AuditSink file out new (ends.Run statuses.NoMemory) =
    (new.written ≡ out.written) ⊎ OfYesRun file (IsBegun out new)
AuditSink file out new _ = new.written ≡ out.written

-- bytes are told, and they are not too many
pub record IsToldText (file : Told) : Type 0 where
  pub text : List ℕ
  pub is_told : file ≡ bytes text
  pub is_short : length text ≤ most_text

-- the told bytes are the text of a run, and whatever run has this text meets all clauses
pub record IsSoundText (file : Told) : Type 0 where
  pub kept : Kept
  pub writable : IsWritable kept
  pub is_told : file ≡ bytes (text_of kept)
  pub is_short : length (text_of kept) ≤ most_text
  pub meets : (k : Kept) → IsWritable k → text_of k ≡ text_of kept → MeetsAllClauses k

-- it was said whether the bytes are a run's text, and whether the run meets all clauses, or there was no memory
abbrev pub IsJudged : AuditStatus → Type 0
IsJudged (ends.Run statuses.Done) = Unit {0}
IsJudged (ends.Run statuses.NoMemory) = Unit {0}
IsJudged (ends.Run status) = ⊥
IsJudged (ends.Journal line) = Unit {0}
IsJudged (ends.Audit c here line) = Unit {0}

-- ---- parts of it

-- why no run was read
abbrev pub UnreadCause : List ℕ → FilesState → FilesState → AuditStatus → Type 0
UnreadCause name old new (ends.Run statuses.Done) = ⊥
UnreadCause name old new (ends.Run statuses.WriteFault) = ⊥
UnreadCause name old new (ends.Audit c here line) = ⊥
UnreadCause name old new status = AuditCause name old new status

-- what is to be written of a run that meets all clauses
abbrev pub IsYesOf : Kept → List ℕ → Type 0
IsYesOf k text = OfYes k (λ lines. text ≡ lines)

-- why a run has no such text
abbrev pub JudgedCause : Kept → AuditStatus → Type 0
JudgedCause k (ends.Run statuses.NoMemory) = Unit {0}
JudgedCause k (ends.Run status) = ⊥
JudgedCause k (ends.Journal line) = ⊥
JudgedCause k (ends.Audit c here line) = IsBrokenAt c here line k

-- how the answer on a run ends
abbrev pub AnswerCause : Kept → AuditStatus → Type 0
AnswerCause k (ends.Run statuses.Done) = Unit {0}
AnswerCause k (ends.Run statuses.WriteFault) = Unit {0}
AnswerCause k status = JudgedCause k status

-- and what was written of it
abbrev pub AnswerSink : Kept → SinkState → SinkState → AuditStatus → Type 0
AnswerSink k out new (ends.Run statuses.Done) = OfYes k (IsWritten out new)
AnswerSink k out new (ends.Run statuses.WriteFault) = PutFailed out new × OfYes k (IsBegun out new)
AnswerSink k out new (ends.Run statuses.NoMemory) =
    (new.written ≡ out.written) ⊎ OfYes k (IsBegun out new)
AnswerSink k out new _ = new.written ≡ out.written
