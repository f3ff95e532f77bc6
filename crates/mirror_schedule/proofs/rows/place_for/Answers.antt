use Rattle.std.proofs.Common.{◌∙◌, ℕ, List, ap, arith, subst, sym}
use Rattle.tiger_base.specs.declared.tenancy.PieceState.{PieceState}
use Rattle.mirror_schedule.specs.Listings.{row_of_piece}
use Rattle.mirror_schedule.specs.Sorted.{IsSorted, gap_from}
use Rattle.mirror_schedule.specs.TimedPieces.{timed_before}
use Rattle.mirror_schedule.proofs.Listings.{row_past, row_read}
use Rattle.mirror_schedule.proofs.rows.place_for.Goals as goal

pub gap_for-requires : goal.gap_for-requires
gap_for-requires c =
    subst (λ (ys : List (PieceState × ℕ)). IsSorted timed_before ys)
    (sym (row_read c.args.rows.now.items c.row_of-row.result (row_of_piece c.args.x.now) c.index.result.now (omega (arith, c.if-row-len.true, c.len.ensures)) c.index.ensures c.row_of-row.ensures))
    c.requires

pub returns-then-row-len : goal.returns-then-row-len
returns-then-row-len c =
    c.gap_for.ensures
    ∙ ap (λ (ys : List (PieceState × ℕ)). gap_from timed_before c.args.x.now 0 ys)
    (row_read c.args.rows.now.items c.row_of-row.result (row_of_piece c.args.x.now) c.index.result.now (omega (arith, c.if-row-len.true, c.len.ensures)) c.index.ensures c.row_of-row.ensures)

pub returns-else-row-len : goal.returns-else-row-len
returns-else-row-len c =
    sym (ap (λ (ys : List (PieceState × ℕ)). gap_from timed_before c.args.x.now 0 ys)
    (row_past c.args.rows.now.items c.row_of-row.result (row_of_piece c.args.x.now) (omega (arith, c.if-row-len.false, c.len.ensures)) c.row_of-row.ensures))
