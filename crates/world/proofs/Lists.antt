-- Lists with each element changed by its number: changed twice, not at all, and in one place.
use Rattle.std.proofs.Common.{◌≡◌, ℕ, zero, suc, ◌+◌, List, [], ◌∷◌, Some, refl, ap, sym, ◌∙◌, arith}
use Rattle.std.specs.Prelude.{slice_get, slice_set}
use Rattle.std.proofs.lemmas.Option.{none-some}
use Rattle.ring_world.specs.Machine.{each_at}

pub each_twice : {X : Type 0} (f g h : ℕ → X → X) (i : ℕ) (xs : List X) → ((k : ℕ) (x : X) → g k (f k x) ≡ h k x)
    → each_at g i (each_at f i xs) ≡ each_at h i xs
each_twice f g h i [] same = refl
each_twice f g h i (x ∷ xs) same =
    let rest = each_twice f g h (suc i) xs same in
    ap (λ y. y ∷ each_at g (suc i) (each_at f (suc i) xs)) (same i x) ∙ ap (λ ys. h i x ∷ ys) rest

pub each_alike : {X : Type 0} (f g : ℕ → X → X) (i : ℕ) (xs : List X) → ((k : ℕ) (x : X) → f k x ≡ g k x)
    → each_at f i xs ≡ each_at g i xs
each_alike f g i [] same = refl
each_alike f g i (x ∷ xs) same =
    ap (λ y. y ∷ each_at f (suc i) xs) (same i x) ∙ ap (λ ys. g i x ∷ ys) (each_alike f g (suc i) xs same)

pub each_kept : {X : Type 0} (f : ℕ → X → X) (i : ℕ) (xs : List X) → ((k : ℕ) (x : X) → f k x ≡ x) → each_at f i xs ≡ xs
each_kept f i [] same = refl
each_kept f i (x ∷ xs) same =
    ap (λ y. y ∷ each_at f (suc i) xs) (same i x) ∙ ap (λ ys. x ∷ ys) (each_kept f (suc i) xs same)

-- From one number on nothing is changed.
kept_from : {X : Type 0} (f : ℕ → X → X) (n i : ℕ) (xs : List X) → ((k : ℕ) (x : X) → (k ≡ n → ⊥) → f k x ≡ x)
    → (d : ℕ) → n + suc d ≡ i → each_at f i xs ≡ xs
kept_from f n i [] same d above = refl
kept_from f n i (x ∷ xs) same d above =
    let here : f i x ≡ x = same i x (λ e. absurd (omega (arith, e, above))) in
    ap (λ y. y ∷ each_at f (suc i) xs) here ∙ ap (λ ys. x ∷ ys) (kept_from f n (suc i) xs same (suc d) (omega (arith, above)))

-- What changes at one number alone is written there.
pub each_one : {X : Type 0} (f : ℕ → X → X) (n i : ℕ) (xs : List X) (k : ℕ) (x : X) → i + k ≡ n → slice_get xs k ≡ Some x
    → ((j : ℕ) (y : X) → (j ≡ n → ⊥) → f j y ≡ y) → slice_set xs k (f n x) ≡ each_at f i xs
each_one f n i [] k x sum at other = absurd (none-some x at)
each_one {X} f n i (y ∷ ys) zero x sum at other =
    let same : y ≡ x = cc in
    let number : i ≡ n = omega (arith, sum) in
    ap (λ z. z ∷ ys) (ap (f n) (sym same) ∙ ap (λ j. f j y) (sym number))
    ∙ ap (λ zs. f i y ∷ zs) (sym (kept_from f n (suc i) ys other 0 (omega (arith, number))))
each_one f n i (y ∷ ys) (suc k) x sum at other =
    let here : f i y ≡ y = other i y (λ e. absurd (omega (arith, e, sum))) in
    ap (λ zs. y ∷ zs) (each_one f n (suc i) ys k x (omega (arith, sum)) at other)
    ∙ ap (λ z. z ∷ each_at f (suc i) ys) (sym here)
