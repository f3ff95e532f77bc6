use Rattle.proof_schedule.specs.Logs.{facts_in}
use Rattle.proof_moments.proofs.views_are_part.Goals as goal
use Rattle.proof_moments.proofs.Parts as lemma

pub returns : goal.returns
returns c p log orders journals beats w = lemma.views_are_part p (facts_in log) orders journals beats w
