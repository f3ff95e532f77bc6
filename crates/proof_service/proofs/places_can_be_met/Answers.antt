use Rattle.proof_service.proofs.PlacesExample.{laws_met}
use Rattle.proof_service.proofs.places_can_be_met.Goals as goal

pub returns : goal.returns
returns k = laws_met
