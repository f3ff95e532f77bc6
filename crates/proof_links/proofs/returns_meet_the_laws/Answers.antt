use Rattle.proof_links.proofs.Laws.{returns_meet_the_laws}
use Rattle.proof_links.proofs.returns_meet_the_laws.Goals as goal

pub returns : goal.returns
returns g c = returns_meet_the_laws _
