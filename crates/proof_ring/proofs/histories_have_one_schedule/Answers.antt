use Rattle.proof_ring.proofs.Histories.{histories_have_one_schedule}
use Rattle.proof_ring.proofs.histories_have_one_schedule.Goals as goal

pub returns : goal.returns
returns g c = histories_have_one_schedule _
