-- What is read of the text of a writable value, and what is found of one that meets all clauses.
use Rattle.std.proofs.Common.{◌≡◌, ℕ, List, Result, Ok, Err, refl, sym, ◌∙◌}
use Rattle.std.specs.Prelude.{IfErr, IfOk}
use Rattle.tiger_base.specs.declared.number.NoMemory.{NoMemory}
use Rattle.node_kit.specs.declared.course.Kept.{Kept}
use Rattle.audit_text.specs.Texts.{text_of}
use Rattle.audit_read.specs.Begun.{HasCause}
use Rattle.audit_read.specs.Writable.{IsWritable}
use Rattle.audit_read.specs.declared.read.TextStop.{TextStop}
use Rattle.audit_read.specs.declared.read.TextStop.TheVariants as stops
use Rattle.audit_verdict.specs.Clauses.{MeetsAllClauses}
use Rattle.audit_verdict.specs.Judgements.{IsJudgementOn}
use Rattle.audit_verdict.specs.declared.judgement.Judgement.{Judgement}
use Rattle.journal_promises.specs.Promises.{IsYes}
use Rattle.journal_promises.proofs.Kept.{gets_yes}
use Rattle.journal_promises.proofs.Same.{same_kept}

pub read_same : (k : Kept) (bytes : List ℕ) (found : Result Kept TextStop) → IsWritable k → bytes ≡ text_of k → IfOk found IsWritable
    → IfOk found (λ j. bytes ≡ text_of j) → IfOk found (λ j. j ≡ k)
read_same k bytes (Ok j) writable text other exact = same_kept j k other writable (sym exact ∙ text)
read_same k bytes (Err stop) writable text other exact = tt

pub read_whole : (k : Kept) (bytes : List ℕ) (found : Result Kept TextStop) → IsWritable k → bytes ≡ text_of k → IfErr found (HasCause bytes)
    → IfErr found (λ stop. stop ≡ stops.NoMemory)
read_whole k bytes (Ok j) writable text cause = tt
read_whole k bytes (Err (stops.Fault line)) writable text cause = absurd (cause.none k writable text)
read_whole k bytes (Err stops.NoMemory) writable text cause = refl

pub judged_yes : (k : Kept) (found : Result Judgement NoMemory) → MeetsAllClauses k → IfOk found (IsJudgementOn k) → IfOk found IsYes
judged_yes k (Ok v) meets says = gets_yes k meets v says
judged_yes k (Err e) meets says = tt
