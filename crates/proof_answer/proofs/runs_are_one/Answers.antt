use Rattle.proof_answer.proofs.runs_are_one.Goals as goal
use Rattle.proof_answer.proofs.One.{runs-are-one}

pub returns : goal.returns
returns g c = runs-are-one _ _
