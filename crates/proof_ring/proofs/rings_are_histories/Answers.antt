use Rattle.proof_ring.proofs.CubLives.{rings_are_histories}
use Rattle.proof_ring.proofs.rings_are_histories.Goals as goal

pub returns : goal.returns
returns g c = rings_are_histories _
