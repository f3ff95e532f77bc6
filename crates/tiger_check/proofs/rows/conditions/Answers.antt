use Rattle.std.proofs.Common.{refl, arith}
use Rattle.tiger_check.proofs.rows.conditions.Goals as goal

pub returns-clause-left_out : goal.returns-clause-left_out
returns-clause-left_out c other = other refl

pub returns-clause-other_rule : goal.returns-clause-other_rule
returns-clause-other_rule c = λ e. omega (arith, e)

pub returns-clause-written : goal.returns-clause-written
returns-clause-written c f = tt

pub returns-clause-silent : goal.returns-clause-silent
returns-clause-silent c f refusal = refusal

pub returns-clause-words : goal.returns-clause-words
returns-clause-words c = tt

pub returns-clause-run : goal.returns-clause-run
returns-clause-run c f = refl
