use Rattle.std.proofs.Common.{◌∙◌}
use Rattle.mirror_schedule.specs.TimedPieces.{timed_behind}
use Rattle.mirror_schedule.proofs.TimedPieces.{after_seen, found_seen, order_seen}
use Rattle.mirror_schedule.proofs.pieces.PieceView.after.Goals as goal

pub returns-in_err-piece-clause-next : goal.returns-in_err-piece-clause-next
returns-in_err-piece-clause-next c =
    c.from_residual.ensures ∙ after_seen c.self.inside.plan.params c.args.given c.self.inside.items c.args.self.now c.timed.result _ c.self.view_is c.self.invariant c.timed.ensures c.in_err-piece.ensures

pub returns-in_err-piece-clause-order : goal.returns-in_err-piece-clause-order
returns-in_err-piece-clause-order c = order_seen c.self.inside.plan.params c.self.inside.items c.args.self.now c.self.view_is c.self.invariant

pub returns-clause-next : goal.returns-clause-next
returns-clause-next c =
    after_seen c.self.inside.plan.params c.args.given c.self.inside.items c.args.self.now c.timed.result _ c.self.view_is c.self.invariant c.timed.ensures c.in_ok-piece.ensures

pub returns-clause-piece : goal.returns-clause-piece
returns-clause-piece c =
    found_seen c.self.inside.plan.params (timed_behind c.timed.result) c.self.inside.items c.args.self.now _ c.self.view_is c.self.invariant c.in_ok-piece.ensures

pub returns-clause-order : goal.returns-clause-order
returns-clause-order c = order_seen c.self.inside.plan.params c.self.inside.items c.args.self.now c.self.view_is c.self.invariant
