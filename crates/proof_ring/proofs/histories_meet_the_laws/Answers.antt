use Rattle.proof_ring.proofs.Histories.{histories_meet_the_laws}
use Rattle.proof_ring.proofs.histories_meet_the_laws.Goals as goal

pub returns : goal.returns
returns g c = histories_meet_the_laws _
