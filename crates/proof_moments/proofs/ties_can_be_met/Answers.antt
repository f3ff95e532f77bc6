use Rattle.proof_moments.proofs.ties_can_be_met.Goals as goal
use Rattle.proof_moments.proofs.Example as lemma

pub returns : goal.returns
returns c = lemma.ties_met
