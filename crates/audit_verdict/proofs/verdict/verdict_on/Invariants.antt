use Rattle.audit_verdict.specs.Verdicts.{MeetsBelow}
use Rattle.audit_verdict.proofs.verdict.verdict_on.Given as goal

-- all clauses so far hold
abbrev pub invariant-loop-number : goal.invariant-loop-number
invariant-loop-number l = record { before : MeetsBelow l.kept l.number }
