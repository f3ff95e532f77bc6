-- A claim that goes by steps, walked along a log: where a step fails first, the claim is first false.
use Rattle.std.proofs.Common.{◌≡◌, ℕ, zero, suc, ◌+◌, ◌<◌, ◌≤◌, List, [], ◌∷◌, ◌++◌, length, take, drop, get_or, sym, ap, subst, ◌∙◌, arith}
use Rattle.std.specs.Prelude.{◌↔◌, slice_index_or}
use Rattle.std.specs.List.{AllByRecursion, fold}
use Rattle.std.proofs.lemmas.List.{take-take, take-append-drop, take-map, take_more, take_all, map-append}
use Rattle.std.proofs.lemmas.List.Sums.{fold-append}
use Rattle.run_facts.specs.Order.{Noted}
use Rattle.run_model.specs.Fronts.{AtEach}
use Rattle.run_model.proofs.Fronts.{at_each_after, at_each_more}
use Rattle.audit_frame.specs.First.{IsFirstFalse}
use Rattle.audit_frame.specs.declared.lines.Line.{Line}
use Rattle.audit_frame.specs.Lines.{noted_line, told_by}

-- a claim holds of a log exactly if each entry is as it should be in the state that those before it make
abbrev pub GoesBySteps : {S : Type 0} → (List Noted → Type 0) → (S → Noted → Type 0) → (S → Noted → S) → S → Type 0
GoesBySteps Claim R f s = (log : List Noted) → Claim log ↔ AtEach R f s log

front_of : {S : Type 0} (R : S → Noted → Type 0) (f : S → Noted → S) (s : S) (front back : List Noted)
    → AtEach R f s (front ++ back) → AtEach R f s front
front_of R f s [] back h = tt
front_of R f s (x ∷ xs) back h = (h.0, front_of R f (f s x) xs back h.1)

-- such a claim holds of the fronts of a log of which it holds
pub of_front : {S : Type 0} (Claim : List Noted → Type 0) (R : S → Noted → Type 0) (f : S → Noted → S) (s : S)
    → GoesBySteps Claim R f s → (log : List Noted) (j : ℕ) → Claim log → Claim (take j log)
of_front Claim R f s law log j h = (law (take j log)).1 (front_of R f s (take j log) (drop j log)
    (subst (λ (xs : List Noted). AtEach R f s xs) (sym (take-append-drop j log)) ((law log).0 h)))

-- one more entry that is as it should be
pub one_more : {S : Type 0} (R : S → Noted → Type 0) (f : S → Noted → S) (s : S) (front : List Noted) (x : Noted)
    → AtEach R f s front → R (fold f s front) x → AtEach R f s (front ++ x ∷ [])
one_more R f s front x h r = at_each_more R f s front (x ∷ []) h (r, tt)

-- and one that is not
pub first_false : {S : Type 0} (Claim : List Noted → Type 0) (R : S → Noted → Type 0) (f : S → Noted → S) (s : S)
    → GoesBySteps Claim R f s → (log : List Noted) (i : ℕ) (x : Noted) → i < length log
    → take (i + 1) log ≡ take i log ++ x ∷ [] → AtEach R f s (take i log) → (R (fold f s (take i log)) x → ⊥)
    → IsFirstFalse Claim log i
first_false {S} Claim R f s law log i x inside more h fails = record {
  inside = inside;
  before = λ j le. (law (take j log)).1 (front_of R f s (take j log) (drop j (take i log)) (parts j le));
  with_it = false_with;
  whole = λ claim. false_with (of_front Claim R f s law log (i + 1) claim);
} where
  parts : (j : ℕ) → j ≤ i → AtEach R f s (take j log ++ drop j (take i log))
  parts j le = subst (λ (xs : List Noted). AtEach R f s xs)
      (sym (ap (λ (xs : List Noted). xs ++ drop j (take i log)) (sym (take-take j i log le)) ∙ take-append-drop j (take i log))) h

  false_with : Claim (take (i + 1) log) → ⊥
  false_with claim = fails (at_each_after R f s (take i log) x []
      (subst (λ (xs : List Noted). AtEach R f s xs) more ((law (take (i + 1) log)).0 claim)))

-- one line more
pub line_more : (lines : List Line) (i : ℕ) (x : Line) → i < length lines → ((d : Line) → slice_index_or lines i d ≡ x)
    → take (i + 1) (told_by lines) ≡ take i (told_by lines) ++ noted_line x ∷ []
line_more lines i x lt is =
    take-map noted_line (i + 1) lines
    ∙ (ap told_by (take_more lines i x lt)
    ∙ (map-append noted_line (take i lines) (get_or lines i x ∷ [])
    ∙ (ap (λ (y : Line). told_by (take i lines) ++ noted_line y ∷ []) (is x)
    ∙ ap (λ (ys : List Noted). ys ++ noted_line x ∷ []) (sym (take-map noted_line i lines)))))

-- the end of a walk
pub all_lines : (lines : List Line) (i : ℕ) → length lines ≤ i → take i (told_by lines) ≡ told_by lines
all_lines lines i le = take-map noted_line i lines ∙ ap told_by (take_all i lines le)

-- what holds of each element
pub each_at : {X : Type 0} (P : X → Type 0) (xs : List X) (i : ℕ) (d : X) → AllByRecursion P xs → i < length xs
    → P (slice_index_or xs i d)
each_at P [] i d h lt = absurd (omega (arith, lt))
each_at P (x ∷ xs) zero d h lt = h.0
each_at P (x ∷ xs) (suc i) d h lt = each_at P xs i d h.1 (omega (arith, lt))

-- the state after one entry more
pub state_more : {S : Type 0} (f : S → Noted → S) (s : S) (front : List Noted) (x : Noted)
    → fold f s (front ++ x ∷ []) ≡ f (fold f s front) x
state_more f s front x = fold-append f s front (x ∷ [])
