use Rattle.std.proofs.Common.{◌∙◌, sym}
use Rattle.mirror_schedule.specs.Pieces.{is_in}
use Rattle.cub_tick.proofs.Splits.{put_known, not_false}
use Rattle.cub_tick.proofs.splitting.add_piece.Goals as goal

pub returns-else-branch-clause-pieces : goal.returns-else-branch-clause-pieces
returns-else-branch-clause-pieces c =
    put_known c.args.piece c.args.pieces.now c.add.new.self c.are_in_order.ensures
    (not_false (is_in c.args.piece c.args.pieces.now.items) (sym c.in_ok-add.ensures.answer ∙ c.if-branch.false)) c.in_ok-add.ensures.ok
