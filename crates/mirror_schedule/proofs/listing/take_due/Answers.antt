use Rattle.std.proofs.Common.{ℕ, List, Bool, Some, None, ◌≡◌, true, false, ◌∙◌, ap, drop, is_some, nat_le, subst, sym}
use Rattle.tiger_base.specs.declared.tenancy.PieceState.{PieceState}
use Rattle.mirror_schedule.specs.Listings.{IsListing, piece_row, piece_stands, pieces_standing, row_of_piece}
use Rattle.mirror_schedule.specs.Sorted.{but_first_if, first_if}
use Rattle.mirror_schedule.specs.TimedPieces.{timed_before}
use Rattle.mirror_schedule.proofs.InRows.{IsPopped, popped}
use Rattle.mirror_schedule.proofs.Listings.{HasLeft, gone_passed, none_due, none_taken, one_leaves, timed_total}
use Rattle.mirror_schedule.proofs.TimedPieces.{timed_order}
use Rattle.mirror_schedule.proofs.listing.take_due.Goals as goal

abbrev Pair : Type 0
Pair = PieceState × ℕ

abbrev leaves : ℕ → Pair → Bool
leaves time x = nat_le x.1 time

-- the first of all that came is gone
passed : (time : ℕ) (rows : List (List Pair)) (agenda now : List Pair) (y : Pair) → IsListing rows agenda → piece_stands rows y ≡ false → Some y ≡ first_if (leaves time) agenda → now ≡ but_first_if (leaves time) agenda
    → IsPopped timed_before timed_order timed_total row_of_piece rows agenda now
passed time rows agenda now y h gone e f =
    let is = gone_passed (leaves time) rows agenda y now gone e f in
    popped timed_before timed_order timed_total row_of_piece rows agenda now is.front is.rest h.order h.stand

pub loop-first-preserved : goal.loop-first-preserved
loop-first-preserved c =
    let next = passed c.args.time c.loop-first.rows.items c.loop-first.agenda c.take_first.new.self c.in-Some.first c.loop-first.invariant.listing (sym c.is_standing.ensures ∙ c.if-is_standing.false) c.in-Some.ensures.first c.in-Some.ensures.left in
    record { listing = record { order = next.sorted; stand = next.stand }; same = next.seen ∙ c.loop-first.invariant.same }

pub loop-first-smaller : goal.loop-first-smaller
loop-first-smaller c =
    (passed c.args.time c.loop-first.rows.items c.loop-first.agenda c.take_first.new.self c.in-Some.first c.loop-first.invariant.listing (sym c.is_standing.ensures ∙ c.if-is_standing.false) c.in-Some.ensures.first c.in-Some.ensures.left).fewer

-- it stands, and is given
pub returns-then-is_standing-clause-listing : goal.returns-then-is_standing-clause-listing
returns-then-is_standing-clause-listing c =
    (one_leaves (leaves c.args.time) c.loop-first.rows.items c.loop-first.agenda c.in-Some.first _ _ c.loop-first.invariant.listing (sym c.is_standing.ensures ∙ c.if-is_standing.true) c.in-Some.ensures.first c.in-Some.ensures.left c.drop_first.ensures.own c.drop_first.ensures.others).listing

pub returns-then-is_standing-clause-first : goal.returns-then-is_standing-clause-first
returns-then-is_standing-clause-first c =
    (one_leaves (leaves c.args.time) c.loop-first.rows.items c.loop-first.agenda c.in-Some.first _ _ c.loop-first.invariant.listing (sym c.is_standing.ensures ∙ c.if-is_standing.true) c.in-Some.ensures.first c.in-Some.ensures.left c.drop_first.ensures.own c.drop_first.ensures.others).first
    ∙ ap (λ (ys : List Pair). first_if (leaves c.args.time) ys) c.loop-first.invariant.same

pub returns-then-is_standing-clause-left : goal.returns-then-is_standing-clause-left
returns-then-is_standing-clause-left c =
    (one_leaves (leaves c.args.time) c.loop-first.rows.items c.loop-first.agenda c.in-Some.first _ _ c.loop-first.invariant.listing (sym c.is_standing.ensures ∙ c.if-is_standing.true) c.in-Some.ensures.first c.in-Some.ensures.left c.drop_first.ensures.own c.drop_first.ensures.others).left
    ∙ ap (λ (ys : List Pair). but_first_if (leaves c.args.time) ys) c.loop-first.invariant.same

-- none leaves
pub returns-clause-listing : goal.returns-clause-listing
returns-clause-listing c =
    subst (λ (ys : List Pair). IsListing c.loop-first.rows.items ys) (sym (none_taken (leaves c.args.time) c.loop-first.agenda _ c.in_default.ensures.first c.in_default.ensures.left)) c.loop-first.invariant.listing

pub returns-clause-first : goal.returns-clause-first
returns-clause-first c =
    (none_due c.args.time c.loop-first.rows.items c.loop-first.agenda c.loop-first.invariant.listing (sym (ap is_some c.in_default.ensures.first))).first
    ∙ ap (λ (ys : List Pair). first_if (leaves c.args.time) ys) c.loop-first.invariant.same

pub returns-clause-left : goal.returns-clause-left
returns-clause-left c =
    ap (λ (ys : List Pair). pieces_standing c.loop-first.rows.items ys) (none_taken (leaves c.args.time) c.loop-first.agenda _ c.in_default.ensures.first c.in_default.ensures.left)
    ∙ ((none_due c.args.time c.loop-first.rows.items c.loop-first.agenda c.loop-first.invariant.listing (sym (ap is_some c.in_default.ensures.first))).left
    ∙ ap (λ (ys : List Pair). but_first_if (leaves c.args.time) ys) c.loop-first.invariant.same)
