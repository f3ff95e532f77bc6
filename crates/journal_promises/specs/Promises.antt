-- What a user may rely on of the text that is written of a run: who reads it has the run again, and the auditor answers
-- Yes.
use Rattle.std.specs.Prelude.{◌≡◌, ◌≤◌, length}
use Rattle.node_kit.specs.declared.course.Kept.{Kept}
use Rattle.outside.specs.Told.{bytes}
use Rattle.audit_text.specs.Texts.{text_of}
use Rattle.audit_read.specs.Writable.{IsWritable}
use Rattle.audit_verdict.specs.Judgements.{IsJudgementOn}
use Rattle.audit_verdict.specs.declared.judgement.Judgement.{Judgement}
use Rattle.audit_verdict.specs.declared.judgement.Judgement.TheVariants as judgement
use Rattle.tiger_audit.specs.Ends.{IsSoundText}
use Rattle.tiger_audit.specs.Statuses.{most_text}

-- no other writable value has its text: whatever is read of the text is this value
abbrev pub IsReadBack : Kept → Type 0
IsReadBack k = (j : Kept) → IsWritable j → text_of j ≡ text_of k → j ≡ k

-- a judgement is a Yes, whatever it counts
abbrev pub IsYes : Judgement → Type 0
IsYes (judgement.Yes counts) = Unit {0}
IsYes (judgement.No c here) = ⊥

-- whatever judgement is given on it, that is a Yes
abbrev pub GetsYes : Kept → Type 0
GetsYes k = (found : Judgement) → IsJudgementOn k found → IsYes found

-- a file that has its bytes is a sound text, if the command reads so many: then `audit` ends with Yes unless memory, a
-- read or a put fails
abbrev pub PassesAudit : Kept → Type 0
PassesAudit k = length (text_of k) ≤ most_text → IsSoundText (bytes (text_of k))
