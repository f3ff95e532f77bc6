use Rattle.proof_schedule.specs.Logs.{facts_in}
use Rattle.proof_moments.proofs.nobody_comes_back.Goals as goal
use Rattle.proof_moments.proofs.Truths as lemma

pub returns : goal.returns
returns c p log orders journals beats w k = lemma.nobody_comes_back p (facts_in log) orders journals beats w k
