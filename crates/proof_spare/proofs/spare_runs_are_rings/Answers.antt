use Rattle.proof_spare.proofs.Runs.{spare_runs_are_rings}
use Rattle.proof_spare.proofs.spare_runs_are_rings.Goals as goal

pub returns : goal.returns
returns g c = spare_runs_are_rings _
