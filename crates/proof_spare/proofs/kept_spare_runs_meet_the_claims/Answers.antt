use Rattle.proof_spare.proofs.Claims.{kept_spare_runs_meet_the_claims}
use Rattle.proof_spare.proofs.kept_spare_runs_meet_the_claims.Goals as goal

pub returns : goal.returns
returns g c = kept_spare_runs_meet_the_claims _
