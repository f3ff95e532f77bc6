use Rattle.proof_ring.proofs.Beliefs.{rings_believe_in_time}
use Rattle.proof_ring.proofs.rings_believe_in_time.Goals as goal

pub returns : goal.returns
returns g c = rings_believe_in_time _
