use Rattle.proof_controller.proofs.Commands.{commanding_once}
use Rattle.proof_controller.proofs.commands_start_once.Goals as goal

pub returns : goal.returns
returns c = commanding_once
