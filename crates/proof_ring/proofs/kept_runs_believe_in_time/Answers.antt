use Rattle.proof_ring.proofs.Kept.{kept_runs_believe_in_time}
use Rattle.proof_ring.proofs.kept_runs_believe_in_time.Goals as goal

pub returns : goal.returns
returns g c = kept_runs_believe_in_time _
