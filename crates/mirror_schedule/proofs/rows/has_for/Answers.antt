use Rattle.std.proofs.Common.{◌∙◌, ℕ, List, ap, arith, sym}
use Rattle.std.specs.List.{list_any}
use Rattle.tiger_base.specs.Records.{same_want, want_of_piece}
use Rattle.tiger_base.specs.declared.tenancy.PieceState.{PieceState}
use Rattle.mirror_schedule.specs.Listings.{row_of_instance}
use Rattle.mirror_schedule.specs.Timed.{untimed}
use Rattle.mirror_schedule.proofs.Listings.{row_past, row_read}
use Rattle.mirror_schedule.proofs.rows.has_for.Goals as goal

pub returns-then-row-len : goal.returns-then-row-len
returns-then-row-len c =
    c.has_for.ensures
    ∙ ap (λ (ys : List (PieceState × ℕ)). list_any (λ x. same_want c.args.want.now (want_of_piece x)) (untimed ys))
    (row_read c.args.rows.now.items c.row_of-row.result (row_of_instance c.args.want.now.instance.0) c.index.result.now (omega (arith, c.if-row-len.true, c.len.ensures)) c.index.ensures c.row_of-row.ensures)

pub returns-else-row-len : goal.returns-else-row-len
returns-else-row-len c =
    sym (ap (λ (ys : List (PieceState × ℕ)). list_any (λ x. same_want c.args.want.now (want_of_piece x)) (untimed ys))
    (row_past c.args.rows.now.items c.row_of-row.result (row_of_instance c.args.want.now.instance.0) (omega (arith, c.if-row-len.false, c.len.ensures)) c.row_of-row.ensures))
