use Rattle.proof_moments.proofs.DeliveryExample.{ties_met}
use Rattle.proof_moments.proofs.parcel_ties_can_be_met.Goals as goal

pub returns : goal.returns
returns c = ties_met
