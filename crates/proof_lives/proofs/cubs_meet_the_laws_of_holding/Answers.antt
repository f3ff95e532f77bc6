use Rattle.proof_lives.proofs.Cubs.{cubs_hold}
use Rattle.proof_lives.proofs.cubs_meet_the_laws_of_holding.Goals as goal

pub returns : goal.returns
returns c = cubs_hold
