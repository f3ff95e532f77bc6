use Rattle.std.proofs.Common.{◌∙◌, ℕ, List, ap, arith, sym}
use Rattle.std.specs.List.{list_any}
use Rattle.tiger_base.specs.declared.tenancy.PieceState.{PieceState}
use Rattle.mirror_schedule.specs.Listings.{row_of_instance}
use Rattle.mirror_schedule.specs.Pieces.{is_of}
use Rattle.mirror_schedule.proofs.Listings.{row_past, row_read}
use Rattle.mirror_schedule.proofs.rows.has_of.Goals as goal

pub returns-then-row-len : goal.returns-then-row-len
returns-then-row-len c =
    c.has_of.ensures
    ∙ ap (λ (ys : List (PieceState × ℕ)). list_any (λ x. is_of c.args.instance x.0) ys)
    (row_read c.args.rows.now.items c.row_of-row.result (row_of_instance c.args.instance.0) c.index.result.now (omega (arith, c.if-row-len.true, c.len.ensures)) c.index.ensures c.row_of-row.ensures)

pub returns-else-row-len : goal.returns-else-row-len
returns-else-row-len c =
    sym (ap (λ (ys : List (PieceState × ℕ)). list_any (λ x. is_of c.args.instance x.0) ys)
    (row_past c.args.rows.now.items c.row_of-row.result (row_of_instance c.args.instance.0) (omega (arith, c.if-row-len.false, c.len.ensures)) c.row_of-row.ensures))
