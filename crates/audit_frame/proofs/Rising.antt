-- In a log whose beats do not fall no entry so far is of a later beat than the next one.
use Rattle.std.proofs.Common.{◌≡◌, ℕ, ◌+◌, ◌<◌, ◌≤◌, List, [], ◌∷◌, ◌++◌, length, take, drop, sym, ap, subst, ◌∙◌, arith}
use Rattle.std.specs.Prelude.{slice_index_or}
use Rattle.std.specs.List.{AllByRecursion, fold}
use Rattle.std.proofs.lemmas.List.{take-append-drop}
use Rattle.run_facts.specs.Accounts.{Rising}
use Rattle.run_facts.specs.Order.{Noted, beat_of}
use Rattle.run_model.specs.Moments.{Moment, opening, next_moment}
use Rattle.audit_frame.specs.Lines.{noted_line, told_by}
use Rattle.audit_frame.specs.declared.lines.Line.{Line}
use Rattle.audit_frame.proofs.Deciding.{line_more}
use Rattle.audit_frame.proofs.Walking.{state_at}

before_last : (front : List Noted) (x : Noted) (back : List Noted) → Rising beat_of ((front ++ x ∷ []) ++ back)
    → AllByRecursion (λ y. beat_of y ≤ beat_of x) front
before_last [] x back h = tt
before_last (y ∷ ys) x back h = (of_last ys x back h.0, before_last ys x back h.1)
  where
    of_last : (zs : List Noted) (u : Noted) (rest : List Noted) → AllByRecursion (λ z. beat_of y ≤ beat_of z) ((zs ++ u ∷ []) ++ rest)
        → beat_of y ≤ beat_of u
    of_last [] u rest g = g.0
    of_last (z ∷ zs) u rest g = of_last zs u rest g.1

pub early_lines : (lines : List Line) (i : ℕ) (x : Line) → i < length lines → ((d : Line) → slice_index_or lines i d ≡ x)
    → Rising beat_of (told_by lines) → AllByRecursion (λ y. beat_of y ≤ beat_of (noted_line x)) (take i (told_by lines))
early_lines lines i x low is rising =
    before_last (take i (told_by lines)) (noted_line x) (drop (i + 1) (told_by lines))
    (subst (λ (log : List Noted). Rising beat_of log)
    (sym (ap (λ (front : List Noted). front ++ drop (i + 1) (told_by lines)) (sym (line_more lines i x low is))
    ∙ take-append-drop (i + 1) (told_by lines))) rising)

early_fold : (b : ℕ) (m : Moment) (front : List Noted) → m.beat ≤ b → AllByRecursion (λ y. beat_of y ≤ b) front
    → (fold next_moment m front).beat ≤ b
unfolding next_moment
early_fold b m [] le h = le
early_fold b m (x ∷ xs) le h = early_fold b (next_moment m x) xs h.0 h.1

-- so the moment so far is none of a later beat
pub early_moment : (lines : List Line) (i : ℕ) (x : Line) → i < length lines → ((d : Line) → slice_index_or lines i d ≡ x)
    → Rising beat_of (told_by lines) → (state_at next_moment opening lines i).beat ≤ beat_of (noted_line x)
early_moment lines i x low is rising =
    early_fold (beat_of (noted_line x)) opening (take i (told_by lines)) (omega arith) (early_lines lines i x low is rising)
