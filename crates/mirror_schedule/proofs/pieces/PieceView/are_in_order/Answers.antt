use Rattle.mirror_schedule.proofs.TimedPieces.{order_seen}
use Rattle.mirror_schedule.proofs.pieces.PieceView.are_in_order.Goals as goal

pub returns : goal.returns
returns c = order_seen c.self.inside.plan.params c.self.inside.items c.args.self.now c.self.view_is c.self.invariant
