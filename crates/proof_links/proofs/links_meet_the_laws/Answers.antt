use Rattle.proof_links.proofs.Laws.{links_meet_the_laws}
use Rattle.proof_links.proofs.links_meet_the_laws.Goals as goal

pub returns : goal.returns
returns g c = links_meet_the_laws _
