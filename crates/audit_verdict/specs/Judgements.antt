-- What is said of a kept run: that it meets all clauses, with its counts, or the clause that it breaks.
use Rattle.node_kit.specs.declared.course.Kept.{Kept}
use Rattle.audit_verdict.specs.Clauses.{MeetsAllClauses}
use Rattle.audit_verdict.specs.Counting.{AreCountsOf}
use Rattle.audit_verdict.specs.Verdicts.{IsFirstBroken}
use Rattle.audit_verdict.specs.declared.counts.Counts.{Counts}
use Rattle.audit_verdict.specs.declared.judgement.Judgement.{Judgement}
use Rattle.audit_verdict.specs.declared.judgement.Judgement.TheVariants as judgement

-- a run meets all clauses, and these are its counts
pub record IsCountedYes (k : Kept) (counts : Counts) : Type 0 where
  pub meets : MeetsAllClauses k
  pub counted : AreCountsOf k counts

-- a judgement says of a kept run what is so
abbrev pub IsJudgementOn : Kept → Judgement → Type 0
IsJudgementOn k (judgement.Yes counts) = IsCountedYes k counts
IsJudgementOn k (judgement.No c here) = IsFirstBroken k c here
