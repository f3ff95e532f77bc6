use Rattle.proof_ring.proofs.Served.{rings_are_never_wrongly_served}
use Rattle.proof_ring.proofs.rings_are_never_wrongly_served.Goals as goal

pub returns : goal.returns
returns g c = rings_are_never_wrongly_served _
