use Rattle.proof_lives.proofs.TwoLives.{runs_of_two_lives}
use Rattle.proof_lives.proofs.runs_are_of_two_lives.Goals as goal

pub returns : goal.returns
returns g c = runs_of_two_lives _
