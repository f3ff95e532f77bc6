use Rattle.proof_ring.proofs.Kept.{kept_runs_meet_the_claims}
use Rattle.proof_ring.proofs.kept_runs_meet_the_claims.Goals as goal

pub returns : goal.returns
returns g c = kept_runs_meet_the_claims _
