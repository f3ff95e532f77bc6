use Rattle.proof_schedule.specs.Logs.{facts_in}
use Rattle.proof_moments.proofs.nobody_is_passed_over.Goals as goal
use Rattle.proof_moments.proofs.Passing as lemma

pub returns : goal.returns
returns c p log orders journals beats w = lemma.nobody_is_passed_over p (facts_in log) orders journals beats w
