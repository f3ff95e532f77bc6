-- Each start has one turn, so each place is filled.
use Rattle.std.proofs.Common.{◌≡◌, ℕ, zero, suc, ◌+◌, ◌<◌, ◌≤◌, List, [], ◌∷◌, ◌++◌, ◌⊎◌, inl, inr, ⊎_elim, Option, Some, length, take, map, get_or, refl, sym, ap, ◌∙◌, subst, arith}
use Rattle.std.specs.Prelude.{slice_get, slice_set, unwrap_or, IsPermutation}
use Rattle.std.specs.List.{All, range_with_len}
use Rattle.std.proofs.lemmas.List.{length-map, map-append, get_or-map, take_all, same_lists}
use Rattle.std.proofs.lemmas.List.Elements.{All-from_get_or, All-get_or, All-more, All-weaker}
use Rattle.std.proofs.lemmas.List.FromFn.{length-range_with_len, get_or-range_with_len, map-range_with_len_more}
use Rattle.std.proofs.lemmas.List.Sorted.{IsPermutation-map, IsPermutation-sym, All-permutation}
use Rattle.std.proofs.lemmas.Option.{unwrap_or-slice_get}
use Rattle.run_report.specs.declared.turns.Turn.{Turn}
use Rattle.run_report.specs.Turns.{AreTurns, AreFilled}

-- ---- the turns of the first starts

pub turns-more : (turns new : List Turn) (t : Turn) (i : ℕ) → new ≡ turns ++ t ∷ [] → t.place ≡ i
    → map (λ (q : Turn). q.place) turns ≡ range_with_len 0 i
    → map (λ (q : Turn). q.place) new ≡ range_with_len 0 (i + 1)
turns-more turns new t i pushed here before =
    let f : Turn → ℕ = λ q. q.place in
    ap (map f) pushed ∙ (map-append f turns (t ∷ [])
    ∙ (ap (λ (l : List ℕ). l ++ t.place ∷ []) before ∙ ap (λ (p : ℕ). range_with_len 0 i ++ p ∷ []) here
    ∙ sym (range-more i)))
  where
    same-map : (xs : List ℕ) → map (λ n. n) xs ≡ xs
    same-map [] = refl
    same-map (x ∷ xs) = ap (λ l. x ∷ l) (same-map xs)

    range-more : (n : ℕ) → range_with_len 0 (n + 1) ≡ range_with_len 0 n ++ n ∷ []
    range-more n =
        sym (same-map (range_with_len 0 (n + 1)))
        ∙ (map-range_with_len_more (λ k. k) 0 n n (omega arith)
        ∙ ap (λ (l : List ℕ). l ++ n ∷ []) (same-map (range_with_len 0 n)))

pub turns-sorted : (turns sorted : List Turn) (n : ℕ) → map (λ (q : Turn). q.place) turns ≡ range_with_len 0 n
    → IsPermutation turns sorted → AreTurns n sorted
turns-sorted turns sorted n places moved =
    subst (λ (l : List ℕ). IsPermutation l (map (λ (q : Turn). q.place) sorted)) places
    (IsPermutation-map (λ (q : Turn). q.place) turns sorted moved)

-- ---- the places of turns

places-low : (n : ℕ) → All (λ (j : ℕ). j < n) (range_with_len 0 n)
places-low n = All-from_get_or (λ (j : ℕ). j < n) (range_with_len 0 n) 0
    (λ i lt. let low : i < n = omega (arith, lt, length-range_with_len 0 n) in
    omega (arith, low, get_or-range_with_len 0 n i 0 low))

pub turn-low : (n : ℕ) (turns : List Turn) (i : ℕ) (t : Turn) → AreTurns n turns → i < length turns
    → t ≡ get_or turns i t → t.place < n
turn-low n turns i t are lt is =
    let f : Turn → ℕ = λ q. q.place in
    let all = All-permutation (λ (j : ℕ). j < n) (range_with_len 0 n) (map f turns) are (places-low n) in
    let there : get_or (map f turns) i 0 < n = All-get_or (λ (j : ℕ). j < n) (map f turns) i 0 (omega (arith, lt, length-map turns f)) all in
    subst (λ (j : ℕ). j < n) (get_or-map f turns i t 0 lt ∙ sym (ap f is)) there

-- ---- filling

-- behind a write an element is the one that was written, or it is as it was
written : {X : Type 0} (xs : List X) (p q : ℕ) (d : X) → p < length xs
    → ((p ≡ q) × (slice_get (slice_set xs p d) q ≡ Some d)) ⊎ (slice_get (slice_set xs p d) q ≡ slice_get xs q)
written [] p q d lt = absurd (omega arith)
written (x ∷ xs) zero zero d lt = inl (refl, refl)
written (x ∷ xs) zero (suc q) d lt = inr refl
written (x ∷ xs) (suc p) zero d lt = inr refl
written (x ∷ xs) (suc p) (suc q) d lt =
    ⊎_elim (λ h. inl (ap suc h.0, h.1)) (λ h. inr h) (written xs p q d (omega arith))

module _ {X : Type 0} where
  -- what is written is what is wanted there: so what was there before still is
  still : (wanted there : List X) (p q : ℕ) (d : X) → p < length there → slice_get wanted p ≡ Some d
      → slice_get there q ≡ slice_get wanted q → slice_get (slice_set there p d) q ≡ slice_get wanted q
  still wanted there p q d lt at before =
      ⊎_elim (λ h. h.1 ∙ (sym at ∙ ap (slice_get wanted) h.0)) (λ h. h ∙ before) (written there p q d lt)

  now : (wanted there : List X) (p : ℕ) (d : X) → p < length there → slice_get wanted p ≡ Some d
      → slice_get (slice_set there p d) p ≡ slice_get wanted p
  now wanted [] p d lt at = absurd (omega arith)
  now wanted (x ∷ xs) p d lt at = here (x ∷ xs) p d lt ∙ sym at
    where
      here : (ys : List X) (k : ℕ) (y : X) → k < length ys → slice_get (slice_set ys k y) k ≡ Some y
      here [] k y lt = absurd (omega arith)
      here (z ∷ ys) zero y lt = refl
      here (z ∷ ys) (suc k) y lt = here ys k y (omega arith)

  pub filled-more : (wanted there new : List X) (turns : List Turn) (i : ℕ) (t : Turn) (d : X)
      → i < length turns → t ≡ get_or turns i t → t.place < length there
      → new ≡ slice_set there t.place d → slice_get wanted t.place ≡ Some d
      → AreFilled wanted there (take i turns) → AreFilled wanted new (take (i + 1) turns)
  filled-more wanted there new turns i t d lt is low set at before =
      let After : Turn → Type 0 = λ q. slice_get new q.place ≡ slice_get wanted q.place in
      All-more After turns i t lt
      (All-weaker (λ (q : Turn). slice_get there q.place ≡ slice_get wanted q.place) After
      (λ q h. ap (λ (l : List X). slice_get l q.place) set ∙ still wanted there t.place q.place d low at h)
      (take i turns) before)
      (subst After is (ap (λ (l : List X). slice_get l t.place) set ∙ now wanted there t.place d low at))

  -- if all turns are over, all is as it is wanted
  pub all-filled : (wanted there : List X) (turns : List Turn) (i : ℕ) → AreTurns (length wanted) turns
      → length turns ≤ i → length there ≡ length wanted → AreFilled wanted there (take i turns) → there ≡ wanted
  all-filled wanted there turns i are over long filled =
      let n = length wanted in
      let f : Turn → ℕ = λ q. q.place in
      let Is : ℕ → Type 0 = λ j. slice_get there j ≡ slice_get wanted j in
      let turned : AreFilled wanted there turns = subst (AreFilled wanted there) (take_all i turns over) filled in
      let places : All Is (map f turns) = λ k d lt.
      let low : k < length turns = omega (arith, lt, length-map turns f) in
      mapped turns Is turned k d low in
      let each : All Is (range_with_len 0 n) =
      All-permutation Is (map f turns) (range_with_len 0 n) (IsPermutation-sym (range_with_len 0 n) (map f turns) are) places in
      same_lists there wanted long
      (λ k d lt. let low : k < n = omega (arith, lt, long) in
      let from_zero : 0 + k ≡ k = omega arith in
      let at : Is k = subst Is (get_or-range_with_len 0 n k 0 low ∙ from_zero) (each k 0 (omega (arith, low, length-range_with_len 0 n))) in
      sym (unwrap_or-slice_get there k d) ∙ (ap (λ (o : Option X). unwrap_or o d) at ∙ unwrap_or-slice_get wanted k d))
    where
      mapped : (ts : List Turn) (Is : ℕ → Type 0) → All (λ (q : Turn). Is q.place) ts → (k d : ℕ) → k < length ts
          → Is (get_or (map (λ (q : Turn). q.place) ts) k d)
      mapped [] Is all k d lt = absurd (omega arith)
      mapped (t ∷ ts) Is all k d lt =
          subst Is (sym (get_or-map (λ (q : Turn). q.place) (t ∷ ts) k t d lt)) (all k t lt)
