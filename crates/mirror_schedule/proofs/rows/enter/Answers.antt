use Rattle.std.proofs.Common.{◌∙◌, ℕ, ◌≤◌, List, length, ap, arith, refl, subst, sym}
use Rattle.std.specs.List.{insert}
use Rattle.std.proofs.lemmas.Result.{err_from_is_err_and}
use Rattle.tiger_base.specs.declared.tenancy.PieceState.{PieceState}
use Rattle.mirror_schedule.specs.Listings.{row_of_piece}
use Rattle.mirror_schedule.proofs.Listings.{kept_row, new_row, old_row, other_row}
use Rattle.mirror_schedule.proofs.rows.enter.Goals as goal

pub index_mut-requires : goal.index_mut-requires
index_mut-requires c = omega (arith, c.in_ok-grow.ensures.there)

pub put_in-requires : goal.put_in-requires
put_in-requires c =
    subst (λ (ys : List (PieceState × ℕ)). c.args.place ≤ length ys)
    (sym (old_row c.args.rows.now.items c.grow.new.rows.items _ c.row_of-row.result (row_of_piece c.args.x) c.index_mut.result.now c.index_mut.result.now c.in_ok-grow.ensures.there c.index_mut.ensures.value c.row_of-row.ensures c.grow.ensures.same refl))
    c.requires

pub returns-in_err-put_in-clause-others : goal.returns-in_err-put_in-clause-others
returns-in_err-put_in-clause-others c = λ n apart.
    other_row c.args.rows.now.items c.grow.new.rows.items _ c.row_of-row.result (row_of_piece c.args.x) c.index_mut.result.now c.put_in.new.self c.in_ok-grow.ensures.there c.index_mut.ensures.value c.row_of-row.ensures c.grow.ensures.same refl n apart

pub returns-in_err-put_in-clause-err : goal.returns-in_err-put_in-clause-err
returns-in_err-put_in-clause-err c =
    let p = err_from_is_err_and c.from_residual-in_err-put_in.result c.from_residual-in_err-put_in.ensures.1 in
    rw p.1 (λ n.
    kept_row c.args.rows.now.items c.grow.new.rows.items _ c.row_of-row.result (row_of_piece c.args.x) c.index_mut.result.now c.put_in.new.self c.in_ok-grow.ensures.there c.index_mut.ensures.value c.row_of-row.ensures c.grow.ensures.same refl c.in_err-put_in.ensures.err n)

pub returns-clause-own : goal.returns-clause-own
returns-clause-own c =
    new_row c.args.rows.now.items c.grow.new.rows.items _ c.row_of-row.result (row_of_piece c.args.x) c.index_mut.result.now c.put_in.new.self c.in_ok-grow.ensures.there c.index_mut.ensures.value c.row_of-row.ensures c.grow.ensures.same refl
    ∙ (c.in_ok-put_in.ensures.ok
    ∙ ap (λ (ys : List (PieceState × ℕ)). insert ys c.args.place c.args.x)
    (old_row c.args.rows.now.items c.grow.new.rows.items _ c.row_of-row.result (row_of_piece c.args.x) c.index_mut.result.now c.put_in.new.self c.in_ok-grow.ensures.there c.index_mut.ensures.value c.row_of-row.ensures c.grow.ensures.same refl))

pub returns-clause-others : goal.returns-clause-others
returns-clause-others c = λ n apart.
    other_row c.args.rows.now.items c.grow.new.rows.items _ c.row_of-row.result (row_of_piece c.args.x) c.index_mut.result.now c.put_in.new.self c.in_ok-grow.ensures.there c.index_mut.ensures.value c.row_of-row.ensures c.grow.ensures.same refl n apart
