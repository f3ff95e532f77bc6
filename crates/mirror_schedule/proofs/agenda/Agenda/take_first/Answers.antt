use Rattle.std.proofs.Common.{◌≡◌, ◌∙◌, ℕ, List, Bool, Some, true, ap, is_some, nat_le, subst, sym}
use Rattle.tiger_base.specs.declared.tenancy.PieceState.{PieceState}
use Rattle.mirror_schedule.specs.Sorted.{but_first_if, first_if}
use Rattle.mirror_schedule.proofs.Agendas.{left_undue, none_out, taken_out}
use Rattle.mirror_schedule.proofs.agenda.Agenda.take_first.Goals as goal

abbrev leaves : ℕ → PieceState × ℕ → Bool
leaves time x = nat_le x.1 time

-- the first piece is not due
pub returns-then-not-is_due-clause-first : goal.returns-then-not-is_due-clause-first
returns-then-not-is_due-clause-first c = (left_undue (leaves c.args.time) c.args.self.now (sym c.is_due.ensures ∙ c.if-not-is_due.true)).first

pub returns-then-not-is_due-clause-left : goal.returns-then-not-is_due-clause-left
returns-then-not-is_due-clause-left c = (left_undue (leaves c.args.time) c.args.self.now (sym c.is_due.ensures ∙ c.if-not-is_due.true)).left

-- there is none
pub returns-in_err-first-clause-first : goal.returns-in_err-first-clause-first
returns-in_err-first-clause-first c =
    c.from_residual.ensures
    ∙ ((none_out (leaves c.args.time) c.self.inside.ranks.keys _ c.in_err-first.ensures.unchanged (λ l. cc (c.in_err-first.ensures.variant.1 l))).first
    ∙ ap (λ (xs : List (PieceState × ℕ)). first_if (leaves c.args.time) xs) c.self.view_is)

pub returns-in_err-first-clause-left : goal.returns-in_err-first-clause-left
returns-in_err-first-clause-left c =
    (none_out (leaves c.args.time) c.self.inside.ranks.keys _ c.in_err-first.ensures.unchanged (λ l. cc (c.in_err-first.ensures.variant.1 l))).left
    ∙ ap (λ (xs : List (PieceState × ℕ)). but_first_if (leaves c.args.time) xs) c.self.view_is

-- it leaves
due : (time : ℕ) (kept seen : List (PieceState × ℕ)) → kept ≡ seen → is_some (first_if (leaves time) seen) ≡ true → is_some (first_if (leaves time) kept) ≡ true
due time kept seen is e = subst (λ (xs : List (PieceState × ℕ)). is_some (first_if (leaves time) xs) ≡ true) (sym is) e

pub returns-clause-first : goal.returns-clause-first
returns-clause-first c =
    ap (λ (x : PieceState × ℕ). Some x) c.timed_of.ensures
    ∙ ((taken_out (leaves c.args.time) c.in_ok-first.first c.self.inside.ranks.keys _ c.in_ok-first.ensures.removal (due c.args.time _ c.args.self.now c.self.view_is (sym c.is_due.ensures ∙ c.if-not-is_due.false))).first
    ∙ ap (λ (xs : List (PieceState × ℕ)). first_if (leaves c.args.time) xs) c.self.view_is)

pub returns-clause-left : goal.returns-clause-left
returns-clause-left c =
    (taken_out (leaves c.args.time) c.in_ok-first.first c.self.inside.ranks.keys _ c.in_ok-first.ensures.removal (due c.args.time _ c.args.self.now c.self.view_is (sym c.is_due.ensures ∙ c.if-not-is_due.false))).left
    ∙ ap (λ (xs : List (PieceState × ℕ)). but_first_if (leaves c.args.time) xs) c.self.view_is
