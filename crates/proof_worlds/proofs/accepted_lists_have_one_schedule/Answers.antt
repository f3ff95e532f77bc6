use Rattle.proof_worlds.proofs.Claims.{accepted_lists_have_one_schedule}
use Rattle.proof_worlds.proofs.accepted_lists_have_one_schedule.Goals as goal

pub returns : goal.returns
returns g c = accepted_lists_have_one_schedule _
