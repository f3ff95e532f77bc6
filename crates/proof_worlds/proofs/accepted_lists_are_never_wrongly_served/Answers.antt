use Rattle.proof_worlds.proofs.Claims.{accepted_lists_are_never_wrongly_served}
use Rattle.proof_worlds.proofs.accepted_lists_are_never_wrongly_served.Goals as goal

pub returns : goal.returns
returns g c = accepted_lists_are_never_wrongly_served _
