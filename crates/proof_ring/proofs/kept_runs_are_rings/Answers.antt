use Rattle.proof_ring.proofs.Runs.{kept_runs_are_rings}
use Rattle.proof_ring.proofs.kept_runs_are_rings.Goals as goal

pub returns : goal.returns
returns g c = kept_runs_are_rings _
