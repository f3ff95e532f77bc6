-- Of backup records no block is to be asked for.
use Rattle.std.proofs.Common.{◌≡◌, ℕ, ◌≤◌, Bool, true, false, cond, ◌&&◌, not, List, [], ◌∷◌, is_some, sym, subst}
use Rattle.std.specs.List.{AllByRecursion}
use Rattle.tiger_base.specs.declared.tenancy.Rec.{Rec}
use Rattle.tiger_base.specs.Kinds.{is_own}
use Rattle.slot_plan.specs.declared.params.Params.{Params}
use Rattle.slot_plan.specs.Keys.{is_earlier, due_of}
use Rattle.partial_view.specs.declared.line.Line.{Line}
use Rattle.partial_view.specs.Lines.{key_of, visit_of, unmarked}
use Rattle.partial_view.specs.Views.{Seen, line_at, with_line, with_record}
use Rattle.partial_view.specs.Pending.{IsAskedBefore}

abbrev AreBackups : List Line → Type 0
AreBackups lines = AllByRecursion (λ x. is_own x.rec.kind ≡ false) lines

one_line : (p : Params) (x : Line) (lines : List Line) → AreBackups lines → is_own x.rec.kind ≡ false → AreBackups (with_line p x lines)
unfolding with_line
one_line p x [] h here = (here, tt)
one_line p x (y ∷ ys) h here =
    elim (is_earlier p (key_of x) (key_of y)) as (λ t. AreBackups (cond t (x ∷ y ∷ ys) (y ∷ with_line p x ys))) [
      | true ↦ (here, h)
      | false ↦ (h.0, one_line p x ys h.1 here)
    ]

one_record : (p : Params) (r : Rec) (lines : List Line) → AreBackups lines → is_own r.kind ≡ false → AreBackups (with_record p r lines)
unfolding with_record
one_record p r lines h here =
    elim (is_some (line_at (visit_of r) lines)) as (λ t. AreBackups (cond t lines (with_line p (unmarked r) lines))) [
      | true ↦ h
      | false ↦ one_line p (unmarked r) lines h here
    ]

never : (own asked : Bool) (limit due : ℕ) → own ≡ false → (own && not asked) ≡ true → limit ≤ due
never true asked limit due e h = absurd (cc)
never false asked limit due e h = absurd (cc)

all_asked : (p : Params) (limit : ℕ) (lines : List Line) → AreBackups lines → IsAskedBefore p limit lines
all_asked p limit [] h = tt
all_asked p limit (x ∷ xs) h = (never (is_own x.rec.kind) x.asked limit (due_of p (key_of x)) h.0, all_asked p limit xs h.1)

backup_more : (r : Rec) (old new : Seen) → AreBackups old.lines → is_own r.kind ≡ false → new ≡ record old { lines = with_record old.params r old.lines } → AreBackups new.lines
backup_more r old new h here e =
    subst (λ (s : Seen). AreBackups s.lines) (sym e) (one_record old.params r old.lines h here)

-- a view of two backup records
pub two_asked : (r q : Rec) (none one two : Seen) (limit : ℕ) → none.lines ≡ [] → is_own r.kind ≡ false → is_own q.kind ≡ false
    → one ≡ record none { lines = with_record none.params r none.lines } → two ≡ record one { lines = with_record one.params q one.lines }
    → IsAskedBefore two.params limit two.lines
two_asked r q none one two limit start own_r own_q e f =
    let first : AreBackups one.lines = backup_more r none one (subst (λ (xs : List Line). AreBackups xs) (sym start) tt) own_r e in
    all_asked two.params limit two.lines (backup_more q one two first own_q f)
