-- Lists: what a filter keeps, and when two lists are the same.
use Rattle.std.proofs.Common.{◌≡◌, ℕ, zero, suc, ◌<◌, List, [], ◌∷◌, filter, length, Bool, true, false, Some, refl, ap, arith, ⊎_elim}
use Rattle.std.specs.Prelude.{slice_get}
use Rattle.std.specs.List.{AllByRecursion}
use Rattle.std.proofs.lemmas.Bool.{cases_Bool}

pub all-filter : {X : Type 0} (P : X → Type 0) (test : X → Bool) (xs : List X) → AllByRecursion P xs
    → AllByRecursion P (filter test xs)
all-filter P test [] h = tt
all-filter P test (x ∷ xs) h = ⊎_elim
    (λ (e : test x ≡ true). rw e (h.0, all-filter P test xs h.1))
    (λ (e : test x ≡ false). rw e (all-filter P test xs h.1))
    (cases_Bool (test x))

-- of two tests either may be the first
pub filter-swap : {X : Type 0} (p q : X → Bool) (xs : List X)
    → filter p (filter q xs) ≡ filter q (filter p xs)
filter-swap p q [] = refl
filter-swap p q (x ∷ xs) = ⊎_elim
    (λ (e : p x ≡ true). ⊎_elim
    (λ (f : q x ≡ true). rw (e, f, e) (ap (λ ys. x ∷ ys) (filter-swap p q xs)))
    (λ (f : q x ≡ false). rw (e, f) (filter-swap p q xs))
    (cases_Bool (q x)))
    (λ (e : p x ≡ false). ⊎_elim
    (λ (f : q x ≡ true). rw (e, f, e) (filter-swap p q xs))
    (λ (f : q x ≡ false). rw (e, f) (filter-swap p q xs))
    (cases_Bool (q x)))
    (cases_Bool (p x))

pub head-tail : {X : Type 0} (x y : X) (xs ys : List X) → x ∷ xs ≡ y ∷ ys → (x ≡ y) × (xs ≡ ys)
head-tail x y xs ys h = (cc, cc)

pub some-same : {X : Type 0} (x y : X) → Some x ≡ Some y → x ≡ y
some-same x y h = cc

-- each number below a list's length has an element
pub element-of : {X : Type 0} (xs : List X) (k : ℕ) → k < length xs
    → (x : X) × (slice_get xs k ≡ Some x)
element-of [] k h = absurd (omega (arith, h))
element-of (x ∷ xs) zero h = (x, refl)
element-of (x ∷ xs) (suc k) h = element-of xs k (omega (arith, h))

-- lists of one length with the same elements are the same
pub each-same : {X : Type 0} (xs ys : List X) → length xs ≡ length ys
    → ((k : ℕ) → k < length xs → slice_get xs k ≡ slice_get ys k) → xs ≡ ys
each-same [] [] h f = refl
each-same [] (y ∷ ys) h f = absurd (omega (arith, h))
each-same (x ∷ xs) [] h f = absurd (omega (arith, h))
each-same (x ∷ xs) (y ∷ ys) h f =
    let head = some-same x y (f zero (omega arith)) in
    let rest = each-same xs ys (omega (arith, h)) (λ k low. f (suc k) (omega (arith, low))) in
    rw (head, rest) refl
