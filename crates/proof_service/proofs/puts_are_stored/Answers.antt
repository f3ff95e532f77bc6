use Rattle.proof_schedule.specs.Logs.{facts_in}
use Rattle.proof_service.proofs.Places.{stored}
use Rattle.proof_service.proofs.puts_are_stored.Goals as goal

pub returns : goal.returns
returns k = λ p c log ok law files. stored p c (facts_in log) ok law files
