-- What a sink in memory holds with each status, and what is kept.
use Rattle.std.proofs.Common.{◌≡◌, ℕ, ◌+◌, List, Option, Some, None, subst}
use Rattle.std.specs.Prelude.{IsSomeAnd, MatchOption}
use Rattle.node_kit.specs.declared.course.Kept.{Kept}
use Rattle.run_report.specs.Text.{report_text, summary_text}
use Rattle.outside.specs.Written.{SinkState}
use Rattle.outside.specs.Memory.{MemorySink, sunk_in}
use Rattle.tiger_input.specs.declared.status.Status.{Status}
use Rattle.tiger_input.specs.declared.status.Status.TheVariants as statuses
use Rattle.tiger_input.specs.Words.{IsRun, IsMake}
use Rattle.tiger_input.specs.Ending.{IsWritten, OutOfMemory, EndsSink}
use Rattle.tiger_run.specs.Ending.{text_for}
use Rattle.tiger_run.proofs.Endings.{text_for-run, text_for-make}
use Rattle.promises.specs.Calls.{IsRefused}
use Rattle.promises.specs.Kept.{IsFrontWritten}

-- this text of what is kept was written whole
abbrev pub IsWrittenOf : MemorySink → MemorySink → Option Kept → (Kept → List ℕ) → Type 0
IsWrittenOf old new kept text = IsSomeAnd kept (λ k. IsWritten (sunk_in old) (sunk_in new) (text k))

pub report_written : (words : List (List ℕ)) (name : List ℕ) (workers : ℕ) (old new : MemorySink) (kept : Option Kept)
    → IsRun words name workers → IsWrittenOf old new kept (text_for words) → IsWrittenOf old new kept report_text
report_written words name workers old new kept run written =
    subst (IsWrittenOf old new kept) (text_for-run words name workers run) written

pub summary_written : (words : List (List ℕ)) (number : ℕ) (old new : MemorySink) (kept : Option Kept)
    → IsMake words number → IsWrittenOf old new kept (text_for words) → IsWrittenOf old new kept summary_text
summary_written words number old new kept make written =
    subst (IsWrittenOf old new kept) (text_for-make words number make) written

-- a put failed
pub put_failed : (old new : MemorySink) (text : Kept → List ℕ) (kept : Option Kept) (status : Status)
    → EndsSink (sunk_in old) (sunk_in new) text kept status → status ≡ statuses.WriteFault
    → (new.faults ≡ old.faults + 1) × IsSomeAnd kept (λ k. IsFrontWritten old new (text k))
put_failed old new text kept status ends is =
    subst (λ (s : Status). EndsSink (sunk_in old) (sunk_in new) text kept s) is ends

-- a front of this text of what is kept was written, and nothing if nothing is kept
abbrev pub IsFrontIfKept : MemorySink → MemorySink → Option Kept → (Kept → List ℕ) → Type 0
IsFrontIfKept old new kept text = MatchOption kept (new.bytes ≡ old.bytes) (λ k. IsFrontWritten old new (text k))

-- there was no memory
out_of_memory : (old new : MemorySink) (text : Kept → List ℕ) (kept : Option Kept)
    → OutOfMemory (sunk_in old) (sunk_in new) text kept → IsFrontIfKept old new kept text
out_of_memory old new text None same = cc
out_of_memory old new text (Some k) begun = begun

pub no_memory : (old new : MemorySink) (text : Kept → List ℕ) (kept : Option Kept) (status : Status)
    → EndsSink (sunk_in old) (sunk_in new) text kept status → status ≡ statuses.NoMemory
    → IsFrontIfKept old new kept text
no_memory old new text kept status ends is =
    out_of_memory old new text kept (subst (λ (s : Status). EndsSink (sunk_in old) (sunk_in new) text kept s) is ends)

-- words or an input were refused
pub none_kept : (old new : SinkState) (text : Kept → List ℕ) (kept : Option Kept) (status : Status)
    → EndsSink old new text kept status → IsRefused status → kept ≡ None
none_kept old new text kept statuses.Done ends refusal = absurd refusal
none_kept old new text kept statuses.WriteFault ends refusal = absurd refusal
none_kept old new text kept statuses.NoMemory ends refusal = absurd refusal
none_kept old new text kept statuses.Words ends refusal = ends.1
none_kept old new text kept (statuses.Absent file) ends refusal = ends.1
none_kept old new text kept (statuses.ReadFault file) ends refusal = ends.1
none_kept old new text kept (statuses.Scenario fault) ends refusal = ends.1
none_kept old new text kept (statuses.TooLong file given most) ends refusal = ends.1
