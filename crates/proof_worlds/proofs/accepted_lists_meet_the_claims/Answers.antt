use Rattle.proof_worlds.proofs.Claims.{accepted_lists_meet_the_claims}
use Rattle.proof_worlds.proofs.accepted_lists_meet_the_claims.Goals as goal

pub returns : goal.returns
returns g c = accepted_lists_meet_the_claims _
