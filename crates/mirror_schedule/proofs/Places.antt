-- What halving finds in a list that is in order.
use Rattle.std.proofs.Common.{◌≡◌, ℕ, ◌+◌, ◌<◌, ◌≤◌, zero, suc, Bool, true, false, cond, List, [], ◌∷◌, length, get_or, drop, drop-cons, find, Some, None, add-one, refl, ap, sym, ◌∙◌, arith}
use Rattle.std.specs.List.{AllByRecursion}
use Rattle.std.proofs.lemmas.Bool.{both_ways}
use Rattle.mirror_schedule.specs.Sorted.{IsSorted, gap_from, place_of}
use Rattle.mirror_schedule.proofs.Orders.{IsOrder}

pub all_at : {X : Type 0} (P : X → Type 0) (xs : List X) (i : ℕ) (d : X) → AllByRecursion P xs → i < length xs → P (get_or xs i d)
all_at P [] i d h l = absurd (omega arith)
all_at P (x ∷ xs) zero d h l = h.0
all_at P (x ∷ xs) (suc i) d h l = all_at P xs i d h.1 (omega arith)

-- the first that passes a test from a place on: the one there, one further on, or none at the end
find_at : {X : Type 0} (test : X → Bool) (xs : List X) (i : ℕ) (d : X) → i < length xs → find test (drop i xs) ≡ cond (test (get_or xs i d)) (Some (get_or xs i d)) (find test (drop (i + 1) xs))
find_at test xs i d l =
    let parts : drop i xs ≡ get_or xs i d ∷ drop (i + 1) xs = rw add-one (drop-cons xs i d l) in
    ap (find test) parts

pub find_here : {X : Type 0} (test : X → Bool) (xs : List X) (i : ℕ) (y : X) → i < length xs → y ≡ get_or xs i y → test y ≡ true → Some y ≡ find test (drop i xs)
find_here test xs i y l at t = sym (find_at test xs i y l ∙ (ap (λ z. cond (test z) (Some z) (find test (drop (i + 1) xs))) (sym at) ∙ ap (λ b. cond b (Some y) (find test (drop (i + 1) xs))) t))

pub find_further : {X : Type 0} (test : X → Bool) (xs : List X) (i : ℕ) (y : X) → i < length xs → y ≡ get_or xs i y → test y ≡ false → find test (drop (i + 1) xs) ≡ find test (drop i xs)
find_further test xs i y l at t = sym (find_at test xs i y l ∙ (ap (λ z. cond (test z) (Some z) (find test (drop (i + 1) xs))) (sym at) ∙ ap (λ b. cond b (Some y) (find test (drop (i + 1) xs))) t))

pub find_past : {X : Type 0} (test : X → Bool) (xs : List X) (i : ℕ) → length xs ≤ i → None ≡ find test (drop i xs)
find_past test [] zero l = refl
find_past test [] (suc i) l = refl
find_past test (x ∷ xs) zero l = absurd (omega (arith, l))
find_past test (x ∷ xs) (suc i) l = find_past test xs i (omega (arith, l))

module _ {X : Type 0} (before : X → X → Bool) where
  -- nothing comes both before and behind another
  pub asymmetric : IsOrder before → (x y : X) → before x y ≡ true → before y x ≡ false
  asymmetric order x y e = cases (before y x) refl
    where
      cases : (t : Bool) → before y x ≡ t → before y x ≡ false
      cases false h = h
      cases true h = absurd (both_ways (before x x) (order.irreflexive x) (order.transitive x y x e h))

  pub place_above : IsOrder before → (x : X) (xs : List X) (i : ℕ) (d : X) → IsSorted before xs → i < length xs → before (get_or xs i d) x ≡ true → i < place_of before x xs
  place_above order x [] i d s l h = absurd (omega arith)
  place_above order x (y ∷ ys) zero d s l h = rw h (omega arith)
  place_above order x (y ∷ ys) (suc i) d s l h =
      let ahead = all_at (λ z. before y z ≡ true) ys i d s.0 (omega arith) in
      let rest = place_above order x ys i d s.1 (omega arith) h in
      rw (order.transitive y (get_or ys i d) x ahead h) (omega arith)

  pub place_below : (x : X) (xs : List X) (i : ℕ) (d : X) → i < length xs → before (get_or xs i d) x ≡ false → place_of before x xs ≤ i
  place_below x [] i d l h = absurd (omega arith)
  place_below x (y ∷ ys) zero d l h = rw h (omega arith)
  place_below x (y ∷ ys) (suc i) d l h =
      let rest = place_below x ys i d (omega arith) h in
      elim (before y x) as (λ t. cond t (suc (place_of before x ys)) zero ≤ suc i) [ true ↦ omega arith | false ↦ omega arith ]

  pub place_most : (x : X) (xs : List X) → place_of before x xs ≤ length xs
  place_most x [] = omega arith
  place_most x (y ∷ ys) =
      let rest = place_most x ys in
      elim (before y x) as (λ t. cond t (suc (place_of before x ys)) zero ≤ suc (length ys)) [ true ↦ omega arith | false ↦ omega arith ]

  -- behind the last element, an element is behind all
  pub place_behind : IsOrder before → (x : X) (xs : List X) (i : ℕ) (d : X) → IsSorted before xs → i + 1 ≡ length xs → before (get_or xs i d) x ≡ true → place_of before x xs ≡ length xs
  place_behind order x xs i d s last h =
      let more = place_above order x xs i d s (omega (arith, last)) h in
      omega (arith, last, more, place_most x xs)

  -- at the place stands an element that comes behind the given one, or one that is the same
  gap_step : IsOrder before → (x y : X) (ys : List X) (n : ℕ) → before y x ≡ true → gap_from before x n (y ∷ ys) ≡ gap_from before x (n + 1) ys
  gap_step order x y ys n e = rw (asymmetric order y x e, e) refl

  gap_new : IsOrder before → (x : X) (xs : List X) (n i : ℕ) (d : X) → i ≡ place_of before x xs → (i < length xs → before x (get_or xs i d) ≡ true) → gap_from before x n xs ≡ Some (n + i)
  gap_new order x [] n i d e h = let none : n ≡ n + i = omega (arith, e) in ap (λ (m : ℕ). Some m) none
  gap_new order x (y ∷ ys) n i d e h = cases (λ j. gap_new order x ys (n + 1) j d) (before y x) refl i e h
    where
      cases : ((j : ℕ) → j ≡ place_of before x ys → (j < length ys → before x (get_or ys j d) ≡ true) → gap_from before x (n + 1) ys ≡ Some (n + 1 + j))
          → (t : Bool) → before y x ≡ t → (i : ℕ) → i ≡ cond t (suc (place_of before x ys)) zero → (i < suc (length ys) → before x (get_or (y ∷ ys) i d) ≡ true) → gap_from before x n (y ∷ ys) ≡ Some (n + i)
      cases rest true is zero e h = absurd (cc)
      cases rest true is (suc i) e h =
          let less : i ≡ place_of before x ys = omega (arith, e) in
          let more : n + 1 + i ≡ n + suc i = omega arith in
          gap_step order x y ys n is ∙ (rest i less (λ l. h (omega (arith, l))) ∙ ap (λ (m : ℕ). Some m) more)
      cases rest false is zero e h =
          let none : n ≡ n + 0 = omega arith in
          rw (h (omega arith)) (ap (λ (m : ℕ). Some m) none)
      cases rest false is (suc i) e h = absurd (cc)

  pub gap_first : IsOrder before → (x : X) (xs : List X) (i : ℕ) (d : X) → i ≡ place_of before x xs → (i < length xs → before x (get_or xs i d) ≡ true) → gap_from before x 0 xs ≡ Some i
  gap_first order x xs i d e h = let none : 0 + i ≡ i = omega arith in gap_new order x xs 0 i d e h ∙ ap (λ (m : ℕ). Some m) none

  pub gap_there : IsOrder before → (x : X) (xs : List X) (n i : ℕ) (d : X) → i ≡ place_of before x xs → i < length xs → before x (get_or xs i d) ≡ false → gap_from before x n xs ≡ None
  gap_there order x [] n i d e l h = absurd (omega arith)
  gap_there order x (y ∷ ys) n i d e l h = cases (λ j. gap_there order x ys (n + 1) j d) (before y x) refl i e l h
    where
      cases : ((j : ℕ) → j ≡ place_of before x ys → j < length ys → before x (get_or ys j d) ≡ false → gap_from before x (n + 1) ys ≡ None)
          → (t : Bool) → before y x ≡ t → (i : ℕ) → i ≡ cond t (suc (place_of before x ys)) zero → i < suc (length ys) → before x (get_or (y ∷ ys) i d) ≡ false → gap_from before x n (y ∷ ys) ≡ None
      cases rest true is zero e l h = absurd (cc)
      cases rest true is (suc i) e l h =
          let less : i ≡ place_of before x ys = omega (arith, e) in
          gap_step order x y ys n is ∙ rest i less (omega arith) h
      cases rest false is zero e l h = rw (h, is) refl
      cases rest false is (suc i) e l h = absurd (cc)
