-- A list of which each element that counts has an element of its own in another list sums to no more than that.
use Rattle.std.proofs.Common.{◌≡◌, ◌∙◌, ℕ, zero, suc, ◌+◌, ◌<◌, ◌≤◌, ◌==◌, Bool, true, false, not, cond, List, [], ◌∷◌, length, get_or, Some, refl, sym, ap, subst, arith, ⊎_elim, eq-zero-or-pos}
use Rattle.std.specs.Prelude.{filter, find, sum_by, flat_map}
use Rattle.std.specs.List.{AllByRecursion}
use Rattle.std.proofs.lemmas.Bool.{eqb-true}
use Rattle.std.proofs.lemmas.List.Sums.{sum_by-cons, sum_by-append}
use Rattle.std.proofs.lemmas.List.Filters.{sum_by-filter_both}
use Rattle.net_schedule.specs.Cubs.{IsRising}

-- what is found counts at most what all do
found_le : {X : Type 0} (g : X → ℕ) (p : X → Bool) (xs : List X) (x : X) → find p xs ≡ Some x → g x ≤ sum_by g (filter p xs)
found_le g p [] x f = absurd (cc)
found_le g p (y ∷ ys) x f = cases (p y) f (λ h. found_le g p ys x h)
  where
    cases : (b : Bool) → cond b (Some y) (find p ys) ≡ Some x → (find p ys ≡ Some x → g x ≤ sum_by g (filter p ys)) → g x ≤ sum_by g (cond b (y ∷ filter p ys) (filter p ys))
    cases true h ih = let same : y ≡ x = cc in subst (λ z. g z ≤ sum_by g (y ∷ filter p ys)) same (omega (arith, sum_by-cons g y (filter p ys)))
    cases false h ih = ih h

-- what is found by one key is found once those of another are gone
found_left : {X : Type 0} (number : X → ℕ) (n m : ℕ) (xs : List X) → (n ≡ m → ⊥) → find (λ x. number x == m) (filter (λ x. not (number x == n)) xs) ≡ find (λ x. number x == m) xs
found_left number n m [] ne = refl
found_left number n m (y ∷ ys) ne = cases (number y == n) refl (number y == m) refl (found_left number n m ys ne)
  where
    cases : (b : Bool) → (number y == n) ≡ b → (e : Bool) → (number y == m) ≡ e → find (λ x. number x == m) (filter (λ x. not (number x == n)) ys) ≡ find (λ x. number x == m) ys
        → find (λ x. number x == m) (cond (not b) (y ∷ filter (λ x. not (number x == n)) ys) (filter (λ x. not (number x == n)) ys)) ≡ cond (number y == m) (Some y) (find (λ x. number x == m) ys)
    cases true t true te ih = absurd (ne (sym (eqb-true (number y) n t) ∙ eqb-true (number y) m te))
    cases true t false te ih = rw te ih
    cases false t e te ih = ap (λ z. cond (number y == m) (Some y) z) ih

-- The numbers of the first list rise. Of each element that counts the second list has one of its number that counts as much.
abbrev pub Has : {X Y : Type 0} → (X → ℕ) → (Y → ℕ) → (X → ℕ) → (Y → ℕ) → List Y → X → Type 0
Has {X} {Y} number number' f g ys x = 0 < f x → (y : Y) × (find (λ z. number' z == number x) ys ≡ Some y) × (f x ≤ g y)

pub dominated : {X Y : Type 0} (number : X → ℕ) (number' : Y → ℕ) (f : X → ℕ) (g : Y → ℕ) (xs : List X) (ys : List Y)
    → IsRising number xs → AllByRecursion (Has number number' f g ys) xs → sum_by f xs ≤ sum_by g ys
dominated number number' f g [] ys rises has = omega arith
dominated number number' f g (x ∷ xs) ys rises has =
    ⊎_elim
    (λ z. omega (arith, sum_by-cons f x xs, z, dominated number number' f g xs ys rises.1 has.1))
    (λ p.
    let h = has.0 p in
    let ih = dominated number number' f g xs (filter (λ y. not (number' y == number x)) ys) rises.1 (left xs rises.0 has.1) in
    let here = found_le g (λ y. number' y == number x) ys h.0 h.1 in
    omega (arith, sum_by-cons f x xs, ih, here, h.2, sum_by-filter_both (λ y. number' y == number x) (λ y. not (number' y == number x)) (λ y. refl) g ys))
    (eq-zero-or-pos (f x))
  where
    left : (zs : List _) → AllByRecursion (λ y. number x < number y) zs → AllByRecursion (Has number number' f g ys) zs → AllByRecursion (Has number number' f g (filter (λ y. not (number' y == number x)) ys)) zs
    left [] up h = tt
    left (z ∷ zs) up h =
        ((λ p. let w = h.0 p in (w.0, found_left number' (number x) (number z) ys (λ e. absurd (omega (arith, up.0, e))) ∙ w.1, w.2)), left zs up.1 h.1)

-- the sum over all parts is the sum of their sums
pub sum_of_parts : {X Y : Type 0} (f : Y → ℕ) (g : X → List Y) (xs : List X) → sum_by f (flat_map g xs) ≡ sum_by (λ x. sum_by f (g x)) xs
sum_of_parts f g [] = refl
sum_of_parts f g (x ∷ xs) = omega (arith, sum_by-append f (g x) (flat_map g xs), sum_of_parts f g xs, sum_by-cons (λ y. sum_by f (g y)) x xs)

-- an amount at one place, and nothing at all others
abbrev pub share : ℕ → ℕ → ℕ → ℕ
share zero a zero = a
share zero a (suc i) = 0
share (suc c) a zero = 0
share (suc c) a (suc i) = share c a i

pub share_here : (c a : ℕ) → share c a c ≡ a
share_here zero a = refl
share_here (suc c) a = share_here c a

share_none : (c i : ℕ) → share c 0 i ≡ 0
share_none zero zero = refl
share_none zero (suc i) = refl
share_none (suc c) zero = refl
share_none (suc c) (suc i) = share_none c i

-- what has at most these shares at all places sums to at most both
pub sum_of_shares : {X : Type 0} (f : X → ℕ) (xs : List X) (z : X) (c d a b : ℕ) → ((i : ℕ) → i < length xs → f (get_or xs i z) ≤ share c a i + share d b i) → sum_by f xs ≤ a + b
sum_of_shares f [] z c d a b h = omega arith
sum_of_shares f (x ∷ xs) z c d a b h = cases c d (λ e g u v k. sum_of_shares f xs z e g u v k) (λ i low. h (suc i) (omega (arith, low))) (h 0 (omega arith))
  where
    cases : (c d : ℕ)
        → ((c d a b : ℕ) → ((i : ℕ) → i < length xs → f (get_or xs i z) ≤ share c a i + share d b i) → sum_by f xs ≤ a + b)
        → ((i : ℕ) → i < length xs → f (get_or xs i z) ≤ share c a (suc i) + share d b (suc i)) → f x ≤ share c a 0 + share d b 0 → sum_by f (x ∷ xs) ≤ a + b
    cases zero zero more rest here = omega (arith, sum_by-cons f x xs, here, more 0 0 0 0 (λ i low. omega (arith, rest i low)))
    cases zero (suc d) more rest here = omega (arith, sum_by-cons f x xs, here, more 0 d 0 b (λ i low. omega (arith, rest i low, share_none 0 i)))
    cases (suc c) zero more rest here = omega (arith, sum_by-cons f x xs, here, more c 0 a 0 (λ i low. omega (arith, rest i low, share_none 0 i)))
    cases (suc c) (suc d) more rest here = omega (arith, sum_by-cons f x xs, here, more c d a b (λ i low. rest i low))
