use Rattle.std.proofs.Common.{ap}
use Rattle.run_claims.specs.Deliveries.{carried_by}
use Rattle.audit_schedule.proofs.Marked.{not_carried}
use Rattle.audit_schedule.proofs.turns.carried.Goals as goal

pub returns-in-Whole : goal.returns-in-Whole
returns-in-Whole c = λ b. ap (carried_by b) c.in-Whole.is

pub returns-in-Piece : goal.returns-in-Piece
returns-in-Piece c = λ b. ap (carried_by b) c.in-Piece.is

pub returns-in_default : goal.returns-in_default
returns-in_default c = λ b. not_carried b _ c.in_default.not-Whole c.in_default.not-Piece
