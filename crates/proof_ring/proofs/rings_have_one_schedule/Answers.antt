use Rattle.proof_ring.proofs.Recorded.{rings_have_one_schedule}
use Rattle.proof_ring.proofs.rings_have_one_schedule.Goals as goal

pub returns : goal.returns
returns g c = rings_have_one_schedule _
