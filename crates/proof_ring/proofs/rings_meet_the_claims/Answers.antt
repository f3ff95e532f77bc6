use Rattle.proof_ring.proofs.Claims.{rings_meet_the_claims}
use Rattle.proof_ring.proofs.rings_meet_the_claims.Goals as goal

pub returns : goal.returns
returns g c = rings_meet_the_claims _
