use Rattle.mirror_schedule.proofs.TimedPieces.{order_seen}
use Rattle.mirror_schedule.proofs.pieces.PieceView.take_by.Goals as goal

pub returns-in_err-piece-clause-order : goal.returns-in_err-piece-clause-order
returns-in_err-piece-clause-order c = order_seen c.self.inside.plan.params c.self.inside.items c.args.self.now c.self.view_is c.self.invariant

pub returns-clause-order : goal.returns-clause-order
returns-clause-order c = order_seen c.self.inside.plan.params c.self.inside.items c.args.self.now c.self.view_is c.self.invariant
