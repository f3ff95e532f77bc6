use Rattle.proof_spare.proofs.Rings.{spare_rings_are_histories}
use Rattle.proof_spare.proofs.spare_rings_are_histories.Goals as goal

pub returns : goal.returns
returns g c = spare_rings_are_histories _
