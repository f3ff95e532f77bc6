use Rattle.proof_schedule.specs.Logs.{facts_in}
use Rattle.proof_moments.proofs.entries_are_local.Goals as goal
use Rattle.proof_moments.proofs.Local as lemma

pub returns : goal.returns
returns c p log orders journals beats w k = lemma.entries_are_local p (facts_in log) orders journals beats w k
