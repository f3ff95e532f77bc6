use Rattle.std.proofs.Common.{◌∙◌, ℕ, List, drop, ap, arith, refl, sym}
use Rattle.tiger_base.specs.declared.tenancy.PieceState.{PieceState}
use Rattle.mirror_schedule.specs.Listings.{row_of_piece}
use Rattle.mirror_schedule.proofs.Listings.{new_row, old_row, other_row, row_past}
use Rattle.mirror_schedule.proofs.rows.drop_first.Goals as goal

pub returns-then-row-len-clause-own : goal.returns-then-row-len-clause-own
returns-then-row-len-clause-own c =
    new_row c.args.rows.now.items c.args.rows.now.items _ c.row_of-row.result (row_of_piece c.args.x.now) c.index_mut.result.now c.drop_first.new.self (omega (arith, c.if-row-len.true, c.len.ensures)) c.index_mut.ensures.value c.row_of-row.ensures (λ n. refl) refl
    ∙ (c.drop_first.ensures
    ∙ ap (λ (ys : List (PieceState × ℕ)). drop 1 ys)
    (old_row c.args.rows.now.items c.args.rows.now.items _ c.row_of-row.result (row_of_piece c.args.x.now) c.index_mut.result.now c.drop_first.new.self (omega (arith, c.if-row-len.true, c.len.ensures)) c.index_mut.ensures.value c.row_of-row.ensures (λ n. refl) refl))

pub returns-then-row-len-clause-others : goal.returns-then-row-len-clause-others
returns-then-row-len-clause-others c = λ n apart.
    other_row c.args.rows.now.items c.args.rows.now.items _ c.row_of-row.result (row_of_piece c.args.x.now) c.index_mut.result.now c.drop_first.new.self (omega (arith, c.if-row-len.true, c.len.ensures)) c.index_mut.ensures.value c.row_of-row.ensures (λ k. refl) refl n apart

pub returns-else-row-len-clause-own : goal.returns-else-row-len-clause-own
returns-else-row-len-clause-own c =
    let none = row_past c.args.rows.now.items c.row_of-row.result (row_of_piece c.args.x.now) (omega (arith, c.if-row-len.false, c.len.ensures)) c.row_of-row.ensures in
    none ∙ sym (ap (λ (ys : List (PieceState × ℕ)). drop 1 ys) none)
