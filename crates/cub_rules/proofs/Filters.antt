-- Filters one behind another, and the first that passes a test.
use Rattle.std.proofs.Common.{◌≡◌, ℕ, ◌<◌, ◌&&◌, zero, suc, Bool, true, false, cond, List, [], ◌∷◌, length, get_or, drop, find, Some, refl, sym, ap, ◌∙◌, arith}
use Rattle.std.specs.List.{All, filter}

swapped : (s t : Bool) → (t && s) ≡ (s && t)
swapped true true = refl
swapped true false = refl
swapped false true = refl
swapped false false = refl

module _ {X : Type 0} where
  module _ (both first second : X → Bool) where
    next : (x : X) (xs ys : List X) (b s t : Bool) → b ≡ (s && t) → second x ≡ t → filter second xs ≡ ys → filter second (cond s (x ∷ xs) xs) ≡ cond b (x ∷ ys) ys
    next x xs ys b true true e d rest = rw (e, d) (ap (λ zs. x ∷ zs) rest)
    next x xs ys b true false e d rest = rw (e, d) rest
    next x xs ys b false t e d rest = rw e rest

    -- two filters leave what passes both tests
    pub filter-twice : (xs : List X) → All (λ x. both x ≡ (first x && second x)) xs → filter second (filter first xs) ≡ filter both xs
    filter-twice [] h = refl
    filter-twice (x ∷ xs) h =
        next x (filter first xs) (filter both xs) (both x) (first x) (second x) (h 0 x (omega arith)) refl (filter-twice xs (λ k d l. h (suc k) d (omega (arith, l))))

  -- and in either order
  pub filter-swap : (first second : X → Bool) (xs : List X) → filter second (filter first xs) ≡ filter first (filter second xs)
  filter-swap first second xs =
      filter-twice (λ x. first x && second x) first second xs (λ k d l. refl)
      ∙ sym (filter-twice (λ x. first x && second x) second first xs (λ k d l. swapped (second (get_or xs k d)) (first (get_or xs k d))))

  -- those that do not pass a test are passed over by a search
  pub find-passed : (test : X → Bool) (n : ℕ) (xs : List X) → ((k : ℕ) (d : X) → k < n → k < length xs → test (get_or xs k d) ≡ false) → find test (drop n xs) ≡ find test xs
  find-passed test zero xs h = refl
  find-passed test (suc n) [] h = refl
  find-passed test (suc n) (x ∷ xs) h =
      find-passed test n xs (λ k d b l. h (suc k) d (omega (arith, b)) (omega (arith, l))) ∙ ap (λ (b : Bool). cond b (Some x) (find test xs)) (sym (h 0 x (omega arith) (omega arith)))
