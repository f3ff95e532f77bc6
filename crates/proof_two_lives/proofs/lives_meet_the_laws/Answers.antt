use Rattle.proof_two_lives.proofs.Gathering.{schedule}
use Rattle.proof_two_lives.proofs.lives_meet_the_laws.Goals as goal

pub returns : goal.returns
returns c = λ p first later here there given. schedule given
