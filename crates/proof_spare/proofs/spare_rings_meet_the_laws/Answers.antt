use Rattle.proof_spare.proofs.Laws.{spare_rings_meet_the_laws}
use Rattle.proof_spare.proofs.spare_rings_meet_the_laws.Goals as goal

pub returns : goal.returns
returns g c = spare_rings_meet_the_laws _
