use Rattle.proof_ring.proofs.Histories.{histories_are_rightly_read}
use Rattle.proof_ring.proofs.histories_are_rightly_read.Goals as goal

pub returns : goal.returns
returns g c = histories_are_rightly_read _
