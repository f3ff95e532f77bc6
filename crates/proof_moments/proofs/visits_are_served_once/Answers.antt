use Rattle.proof_schedule.specs.Logs.{facts_in}
use Rattle.proof_pieces.specs.PieceLogs.{pieces_in}
use Rattle.proof_service.specs.ServiceLogs.{service_in}
use Rattle.proof_moments.proofs.visits_are_served_once.Goals as goal
use Rattle.proof_moments.proofs.Visits as lemma

pub returns : goal.returns
returns c p a log more rest end beats g none = lemma.served_once p a (facts_in log) (pieces_in more) (service_in rest) end g beats none
