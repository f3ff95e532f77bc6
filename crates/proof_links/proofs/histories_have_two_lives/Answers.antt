use Rattle.proof_links.proofs.Laws.{histories_have_two_lives}
use Rattle.proof_links.proofs.histories_have_two_lives.Goals as goal

pub returns : goal.returns
returns g c = histories_have_two_lives _
