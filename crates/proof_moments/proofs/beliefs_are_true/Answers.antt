use Rattle.proof_schedule.specs.Logs.{facts_in}
use Rattle.proof_moments.proofs.beliefs_are_true.Goals as goal
use Rattle.proof_moments.proofs.Truths as lemma

pub returns : goal.returns
returns c p log orders journals beats w = lemma.beliefs_are_true p (facts_in log) orders journals beats w
