use Rattle.proof_parcels.proofs.parcels_are_tied.Goals as goal
use Rattle.proof_parcels.proofs.Tied as lemma

pub returns : goal.returns
returns g c = lemma.parcels_are_tied _
