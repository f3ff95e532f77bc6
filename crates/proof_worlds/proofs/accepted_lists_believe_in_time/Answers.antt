use Rattle.proof_worlds.proofs.Claims.{accepted_lists_believe_in_time}
use Rattle.proof_worlds.proofs.accepted_lists_believe_in_time.Goals as goal

pub returns : goal.returns
returns g c = accepted_lists_believe_in_time _
