-- One turn of a walk along the lines of a log.
use Rattle.std.proofs.Common.{◌≡◌, ℕ, ◌+◌, ◌<◌, ◌≤◌, List, length, take, sym, ap, subst, ◌∙◌, arith}
use Rattle.std.specs.Prelude.{slice_index_or}
use Rattle.std.specs.List.{fold}
use Rattle.std.proofs.lemmas.List.{length-map}
use Rattle.run_facts.specs.Order.{Noted}
use Rattle.run_model.specs.Fronts.{AtEach}
use Rattle.audit_frame.specs.First.{IsFirstFalse}
use Rattle.audit_frame.specs.Lines.{noted_line, told_by}
use Rattle.audit_frame.specs.declared.lines.Line.{Line}
use Rattle.audit_frame.proofs.Deciding.{GoesBySteps, first_false, line_more, one_more, all_lines, state_more}

-- the state behind so many lines
abbrev pub state_at : {S : Type 0} → (S → Noted → S) → S → List Line → ℕ → S
state_at f s lines i = fold f s (take i (told_by lines))

-- the lines so far are as they should be
abbrev pub AreRight : {S : Type 0} → (S → Noted → Type 0) → (S → Noted → S) → S → List Line → ℕ → Type 0
AreRight R f s lines i = AtEach R f s (take i (told_by lines))

pub wrong_here : {S : Type 0} (Claim : List Noted → Type 0) (R : S → Noted → Type 0) (f : S → Noted → S) (s : S)
    → GoesBySteps Claim R f s → (lines : List Line) (i : ℕ) (x : Line) → i < length lines
    → ((d : Line) → slice_index_or lines i d ≡ x) → AreRight R f s lines i → (R (state_at f s lines i) (noted_line x) → ⊥)
    → IsFirstFalse Claim (told_by lines) i
wrong_here Claim R f s law lines i x low is right wrong =
    first_false Claim R f s law (told_by lines) i (noted_line x) (omega (arith, length-map lines noted_line, low))
    (line_more lines i x low is) right wrong

pub right_here : {S : Type 0} (R : S → Noted → Type 0) (f : S → Noted → S) (s : S) (lines : List Line) (i : ℕ) (x : Line)
    → i < length lines → ((d : Line) → slice_index_or lines i d ≡ x) → AreRight R f s lines i
    → R (state_at f s lines i) (noted_line x) → AreRight R f s lines (i + 1)
right_here R f s lines i x low is right here =
    subst (λ (xs : List Noted). AtEach R f s xs) (sym (line_more lines i x low is))
    (one_more R f s (take i (told_by lines)) (noted_line x) right here)

pub state_next : {S : Type 0} (f : S → Noted → S) (s : S) (lines : List Line) (i : ℕ) (x : Line) → i < length lines
    → ((d : Line) → slice_index_or lines i d ≡ x) → state_at f s lines (i + 1) ≡ f (state_at f s lines i) (noted_line x)
state_next f s lines i x low is =
    ap (λ (xs : List Noted). fold f s xs) (line_more lines i x low is) ∙ state_more f s (take i (told_by lines)) (noted_line x)

pub all_right : {S : Type 0} (Claim : List Noted → Type 0) (R : S → Noted → Type 0) (f : S → Noted → S) (s : S)
    → GoesBySteps Claim R f s → (lines : List Line) (i : ℕ) → length lines ≤ i → AreRight R f s lines i → Claim (told_by lines)
all_right Claim R f s law lines i over right =
    (law (told_by lines)).1 (subst (λ (xs : List Noted). AtEach R f s xs) (all_lines lines i over) right)
