use Rattle.proof_cubs.proofs.Laws.{cubs_meet}
use Rattle.proof_cubs.proofs.cubs_meet_the_laws.Goals as goal

pub returns : goal.returns
returns c = cubs_meet
