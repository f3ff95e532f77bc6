use Rattle.std.proofs.Common.{ℕ, List, Bool, ◌≡◌, false, ◌∙◌, ap, is_some, nat_le, subst, sym}
use Rattle.tiger_base.specs.declared.tenancy.PieceState.{PieceState}
use Rattle.mirror_schedule.specs.Listings.{IsListing, pieces_standing}
use Rattle.mirror_schedule.specs.Sorted.{but_first_if, first_if}
use Rattle.mirror_schedule.proofs.Agendas.{IsLeft}
use Rattle.mirror_schedule.proofs.Listings.{none_due}
use Rattle.mirror_schedule.proofs.listing.Listing.take_first.Goals as goal

abbrev leaves : ℕ → PieceState × ℕ → Bool
leaves time x = nat_le x.1 time

pub take_due-requires : goal.take_due-requires
take_due-requires c = c.self.invariant

-- what is due is taken
pub invariant_of-self : goal.invariant_of-self
invariant_of-self c = c.take_due.ensures.listing

pub returns-then-is_due-clause-first : goal.returns-then-is_due-clause-first
returns-then-is_due-clause-first c =
    c.take_due.ensures.first ∙ ap (λ (ys : List (PieceState × ℕ)). first_if (leaves c.args.time) ys) c.self.view_is

pub returns-then-is_due-clause-left : goal.returns-then-is_due-clause-left
returns-then-is_due-clause-left c =
    c.take_due.ensures.left ∙ ap (λ (ys : List (PieceState × ℕ)). but_first_if (leaves c.args.time) ys) c.self.view_is

-- no piece is due
none : (time : ℕ) (rows : List (List (PieceState × ℕ))) (agenda seen : List (PieceState × ℕ)) → IsListing rows agenda → pieces_standing rows agenda ≡ seen → is_some (first_if (leaves time) agenda) ≡ false → IsLeft (leaves time) seen
none time rows agenda seen h is off = subst (IsLeft (leaves time)) is (none_due time rows agenda h off)

pub returns-else-is_due-clause-first : goal.returns-else-is_due-clause-first
returns-else-is_due-clause-first c =
    (none c.args.time c.self.inside.rows.items c.self.inside.agenda c.args.self.now c.self.invariant c.self.view_is (sym c.is_due.ensures ∙ c.if-is_due.false)).first

pub returns-else-is_due-clause-left : goal.returns-else-is_due-clause-left
returns-else-is_due-clause-left c =
    (none c.args.time c.self.inside.rows.items c.self.inside.agenda c.args.self.now c.self.invariant c.self.view_is (sym c.is_due.ensures ∙ c.if-is_due.false)).left
