use Rattle.proof_schedule.specs.Logs.{facts_in}
use Rattle.proof_pieces.specs.PieceLogs.{pieces_in}
use Rattle.proof_service.specs.ServiceLogs.{service_in}
use Rattle.proof_service.proofs.TrueReads.{true_reads}
use Rattle.proof_service.proofs.reads_are_true.Goals as goal

pub returns : goal.returns
returns k = λ p c log more rest ok law pieces disks. true_reads p c (facts_in log) (pieces_in more) (service_in rest) ok law pieces disks
