use Rattle.proof_answer.proofs.scenarios_are_what_they_say.Goals as goal
use Rattle.proof_answer.proofs.Scenarios.{scenarios_are_what_they_say}

pub returns : goal.returns
returns c = scenarios_are_what_they_say
