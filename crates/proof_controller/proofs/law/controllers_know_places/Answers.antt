use Rattle.proof_controller.proofs.Follows.{controllers_know_places}
use Rattle.proof_controller.proofs.law.controllers_know_places.Goals as goal

pub returns : goal.returns
returns c = controllers_know_places
