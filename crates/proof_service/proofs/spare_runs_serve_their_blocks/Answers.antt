use Rattle.proof_schedule.specs.Logs.{facts_in}
use Rattle.proof_pieces.specs.PieceLogs.{pieces_in}
use Rattle.proof_service.specs.ServiceLogs.{service_in}
use Rattle.proof_service.proofs.Follows.{spare_runs_serve}
use Rattle.proof_service.proofs.spare_runs_serve_their_blocks.Goals as goal

pub returns : goal.returns
returns c = λ p log more rest end death ok law pieces laws spare.
    spare_runs_serve p (facts_in log) (pieces_in more) (service_in rest) end ok law pieces laws death spare
