use Rattle.std.proofs.Common.{◌∙◌, ℕ, List, ap, arith, sym}
use Rattle.tiger_base.specs.declared.tenancy.PieceState.{PieceState}
use Rattle.mirror_schedule.specs.Listings.{row_of_piece}
use Rattle.mirror_schedule.specs.Rows.{is_among}
use Rattle.mirror_schedule.specs.TimedPieces.{timed_before}
use Rattle.mirror_schedule.proofs.Listings.{row_past, row_read}
use Rattle.mirror_schedule.proofs.rows.is_standing.Goals as goal

pub returns-then-row-len : goal.returns-then-row-len
returns-then-row-len c =
    c.has.ensures
    ∙ ap (λ (ys : List (PieceState × ℕ)). is_among timed_before c.args.x.now ys)
    (row_read c.args.rows.now.items c.row_of-row.result (row_of_piece c.args.x.now) c.index.result.now (omega (arith, c.if-row-len.true, c.len.ensures)) c.index.ensures c.row_of-row.ensures)

pub returns-else-row-len : goal.returns-else-row-len
returns-else-row-len c =
    sym (ap (λ (ys : List (PieceState × ℕ)). is_among timed_before c.args.x.now ys)
    (row_past c.args.rows.now.items c.row_of-row.result (row_of_piece c.args.x.now) (omega (arith, c.if-row-len.false, c.len.ensures)) c.row_of-row.ensures))
