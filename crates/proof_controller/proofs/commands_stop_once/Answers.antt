use Rattle.proof_controller.proofs.CommandedOnce.{commanding_stops}
use Rattle.proof_controller.proofs.commands_stop_once.Goals as goal

pub returns : goal.returns
returns c = commanding_stops
