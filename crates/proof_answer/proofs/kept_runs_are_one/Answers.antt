use Rattle.proof_answer.proofs.kept_runs_are_one.Goals as goal
use Rattle.proof_answer.proofs.Kepts.{kept_runs_are_one}

pub returns : goal.returns
returns g c = kept_runs_are_one _
