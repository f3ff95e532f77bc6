use Rattle.std.proofs.Common.{◌∙◌, ℕ, List, count_by, not, ap, arith, refl, sym}
use Rattle.std.specs.List.{filter}
use Rattle.tiger_base.specs.declared.tenancy.PieceState.{PieceState}
use Rattle.mirror_schedule.specs.Choices.{covers, owner_of}
use Rattle.mirror_schedule.specs.Listings.{row_of_instance}
use Rattle.mirror_schedule.proofs.Listings.{new_row, old_row, other_row, row_past}
use Rattle.mirror_schedule.proofs.rows.strike_out.Goals as goal

pub returns-then-row-len-clause-count : goal.returns-then-row-len-clause-count
returns-then-row-len-clause-count c =
    c.leave_out.ensures.count
    ∙ ap (λ (ys : List (PieceState × ℕ)). count_by (λ x. covers c.args.wanted.now x.0) ys)
    (old_row c.args.rows.now.items c.args.rows.now.items _ c.row_of-row.result (row_of_instance (owner_of c.args.wanted.now).0) c.index_mut.result.now c.leave_out.new.self (omega (arith, c.if-row-len.true, c.len.ensures)) c.index_mut.ensures.value
    (c.row_of-row.ensures ∙ ap (λ v. row_of_instance v.0) c.owner.ensures) (λ n. refl) refl)

pub returns-then-row-len-clause-own : goal.returns-then-row-len-clause-own
returns-then-row-len-clause-own c =
    new_row c.args.rows.now.items c.args.rows.now.items _ c.row_of-row.result (row_of_instance (owner_of c.args.wanted.now).0) c.index_mut.result.now c.leave_out.new.self (omega (arith, c.if-row-len.true, c.len.ensures)) c.index_mut.ensures.value
    (c.row_of-row.ensures ∙ ap (λ v. row_of_instance v.0) c.owner.ensures) (λ n. refl) refl
    ∙ (c.leave_out.ensures.left
    ∙ ap (λ (ys : List (PieceState × ℕ)). filter (λ x. not (covers c.args.wanted.now x.0)) ys)
    (old_row c.args.rows.now.items c.args.rows.now.items _ c.row_of-row.result (row_of_instance (owner_of c.args.wanted.now).0) c.index_mut.result.now c.leave_out.new.self (omega (arith, c.if-row-len.true, c.len.ensures)) c.index_mut.ensures.value
    (c.row_of-row.ensures ∙ ap (λ v. row_of_instance v.0) c.owner.ensures) (λ n. refl) refl))

pub returns-then-row-len-clause-others : goal.returns-then-row-len-clause-others
returns-then-row-len-clause-others c = λ n apart.
    other_row c.args.rows.now.items c.args.rows.now.items _ c.row_of-row.result (row_of_instance (owner_of c.args.wanted.now).0) c.index_mut.result.now c.leave_out.new.self (omega (arith, c.if-row-len.true, c.len.ensures)) c.index_mut.ensures.value
    (c.row_of-row.ensures ∙ ap (λ v. row_of_instance v.0) c.owner.ensures) (λ k. refl) refl n apart

pub returns-else-row-len-clause-count : goal.returns-else-row-len-clause-count
returns-else-row-len-clause-count c =
    sym (ap (λ (ys : List (PieceState × ℕ)). count_by (λ x. covers c.args.wanted.now x.0) ys)
    (row_past c.args.rows.now.items c.row_of-row.result (row_of_instance (owner_of c.args.wanted.now).0) (omega (arith, c.if-row-len.false, c.len.ensures)) (c.row_of-row.ensures ∙ ap (λ v. row_of_instance v.0) c.owner.ensures)))

pub returns-else-row-len-clause-own : goal.returns-else-row-len-clause-own
returns-else-row-len-clause-own c =
    let none = row_past c.args.rows.now.items c.row_of-row.result (row_of_instance (owner_of c.args.wanted.now).0) (omega (arith, c.if-row-len.false, c.len.ensures)) (c.row_of-row.ensures ∙ ap (λ v. row_of_instance v.0) c.owner.ensures) in
    none ∙ sym (ap (λ (ys : List (PieceState × ℕ)). filter (λ x. not (covers c.args.wanted.now x.0)) ys) none)
