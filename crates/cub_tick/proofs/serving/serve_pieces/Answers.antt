use Rattle.cub_rules.specs.State.{IsPieceAt}
use Rattle.cub_tick.proofs.Parts.{of_taken, taken_fewer, taken_more, taken_pieces, taken_outs}
use Rattle.cub_tick.proofs.serving.serve_pieces.Goals as goal

pub send_piece-requires : goal.send_piece-requires
send_piece-requires c =
    of_taken c.loop-piece.invariant c.in-Some.ensures.first c.in-Some.ensures.left (IsPieceAt c.args.site.now.plan.params c.args.site.now.cub.0) c.requires.pieces

pub loop-piece-smaller : goal.loop-piece-smaller
loop-piece-smaller c = taken_fewer c.loop-piece.invariant c.in-Some.ensures.first c.in-Some.ensures.left

pub loop-piece-preserved : goal.loop-piece-preserved
loop-piece-preserved c = taken_more c.loop-piece.invariant c.in-Some.ensures.first c.in-Some.ensures.left c.in_ok-send_piece.ensures

pub returns-clause-pieces : goal.returns-clause-pieces
returns-clause-pieces c = taken_pieces c.loop-piece.invariant c.in_default.ensures.first c.in_default.ensures.order c.in_default.ensures.left

pub returns-clause-outs : goal.returns-clause-outs
returns-clause-outs c = taken_outs c.loop-piece.invariant c.in_default.ensures.first c.in_default.ensures.order
