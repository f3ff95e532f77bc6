use Rattle.std.proofs.Common.{ℕ, List, is_some, ◌∙◌, ap, sym}
use Rattle.std.proofs.lemmas.Result.{err_from_is_err_and}
use Rattle.tiger_base.specs.declared.tenancy.PieceState.{PieceState}
use Rattle.mirror_schedule.specs.Sorted.{gap_from, with_one}
use Rattle.mirror_schedule.specs.TimedPieces.{timed_before}
use Rattle.mirror_schedule.proofs.Listings.{entered, inside_row, not_entered, row_sorted, seen_old, told_new, told_old}
use Rattle.mirror_schedule.proofs.listing.Listing.add.Goals as goal

pub place_for-requires : goal.place_for-requires
place_for-requires c = row_sorted c.self.inside.rows.items c.self.inside.agenda c.self.invariant c.args.x

pub enter-requires : goal.enter-requires
enter-requires c = inside_row c.self.inside.rows.items c.self.inside.agenda c.self.invariant c.args.x c.in-Some.place c.in-Some.ensures

-- without memory for it in its row
pub invariant_of-self-in_err-enter-in-Some : goal.invariant_of-self-in_err-enter-in-Some
invariant_of-self-in_err-enter-in-Some c =
    (not_entered c.self.inside.rows.items c.self.inside.agenda c.self.invariant c.args.x c.in-Some.place c.in-Some.ensures c.enter.new.rows.items c.note.new.self c.in_err-enter-in-Some.ensures.err c.in_ok-note-in-Some.ensures.ok).listing

pub returns-in_err-enter-in-Some-clause-err : goal.returns-in_err-enter-in-Some-clause-err
returns-in_err-enter-in-Some-clause-err c =
    let p = err_from_is_err_and c.from_residual-in_err-enter-in-Some.result c.from_residual-in_err-enter-in-Some.ensures.1 in
    rw p.1 ((not_entered c.self.inside.rows.items c.self.inside.agenda c.self.invariant c.args.x c.in-Some.place c.in-Some.ensures c.enter.new.rows.items c.note.new.self c.in_err-enter-in-Some.ensures.err c.in_ok-note-in-Some.ensures.ok).seen_is ∙ c.self.view_is)

-- a new one
pub invariant_of-self-in-Some : goal.invariant_of-self-in-Some
invariant_of-self-in-Some c =
    (entered c.self.inside.rows.items c.self.inside.agenda c.self.invariant c.args.x c.in-Some.place c.in-Some.ensures c.enter.new.rows.items c.note.new.self c.in_ok-enter-in-Some.ensures.own c.enter.ensures.others c.in_ok-note-in-Some.ensures.ok).listing

pub returns-in_ok-enter-in-Some-clause-answer : goal.returns-in_ok-enter-in-Some-clause-answer
returns-in_ok-enter-in-Some-clause-answer c =
    told_new c.self.inside.rows.items c.self.inside.agenda c.self.invariant c.args.x c.in-Some.place c.in-Some.ensures ∙ ap (λ (xs : List (PieceState × ℕ)). is_some (gap_from timed_before c.args.x 0 xs)) c.self.view_is

pub returns-in_ok-enter-in-Some-clause-ok : goal.returns-in_ok-enter-in-Some-clause-ok
returns-in_ok-enter-in-Some-clause-ok c =
    (entered c.self.inside.rows.items c.self.inside.agenda c.self.invariant c.args.x c.in-Some.place c.in-Some.ensures c.enter.new.rows.items c.note.new.self c.in_ok-enter-in-Some.ensures.own c.enter.ensures.others c.in_ok-note-in-Some.ensures.ok).seen_is
    ∙ ap (λ (xs : List (PieceState × ℕ)). with_one timed_before c.args.x xs) c.self.view_is

-- one that is there
pub returns-in-None-clause-answer : goal.returns-in-None-clause-answer
returns-in-None-clause-answer c =
    told_old c.self.inside.rows.items c.self.inside.agenda c.self.invariant c.args.x c.in-None.ensures
    ∙ ap (λ (xs : List (PieceState × ℕ)). is_some (gap_from timed_before c.args.x 0 xs)) c.self.view_is

pub returns-in-None-clause-ok : goal.returns-in-None-clause-ok
returns-in-None-clause-ok c =
    sym c.self.view_is
    ∙ (seen_old c.self.inside.rows.items c.self.inside.agenda c.self.invariant c.args.x c.in-None.ensures
    ∙ ap (λ (xs : List (PieceState × ℕ)). with_one timed_before c.args.x xs) c.self.view_is)
