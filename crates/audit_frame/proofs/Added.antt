-- Lists with one element more, and tests with one reason more.
use Rattle.std.proofs.Common.{◌≡◌, ℕ, ◌<◌, ◌≤◌, Bool, true, false, ◌&&◌, ◌||◌, nat_lt, List, [], ◌∷◌, ◌++◌, refl, sym, ⊎_elim, inl, inr}
use Rattle.std.specs.Prelude.{◌==◌, ◌⊎◌}
use Rattle.std.specs.List.{AllByRecursion}
use Rattle.std.proofs.lemmas.Bool.{eqb-true, eq-eqb, both_ways, lt-ltb, cases_lt}
use Rattle.run_model.specs.Fronts.{AnyByRecursion}

-- ---- lists

pub any_before : {X : Type 0} (P : X → Type 0) (xs ys : List X) → AnyByRecursion P xs → AnyByRecursion P (xs ++ ys)
any_before P [] ys h = absurd h
any_before P (x ∷ xs) ys h = ⊎_elim (λ a. inl a) (λ b. inr (any_before P xs ys b)) h

pub any_end : {X : Type 0} (P : X → Type 0) (xs : List X) (y : X) → P y → AnyByRecursion P (xs ++ y ∷ [])
any_end P [] y h = inl h
any_end P (x ∷ xs) y h = inr (any_end P xs y h)

pub any_more : {X : Type 0} (P : X → Type 0) (xs : List X) (y : X) → AnyByRecursion P (xs ++ y ∷ []) → AnyByRecursion P xs ⊎ P y
any_more P [] y h = ⊎_elim (λ a. inr a) (λ b. absurd b) h
any_more P (x ∷ xs) y h = ⊎_elim
    (λ a. inl (inl a))
    (λ b. ⊎_elim (λ c. inl (inr c)) (λ c. inr c) (any_more P xs y b))
    h

-- one of the elements has both
pub meet : {X : Type 0} (P Q : X → Type 0) (C : Type 0) (xs : List X) → ((x : X) → P x → Q x → C) → AnyByRecursion P xs
    → AllByRecursion Q xs → C
meet P Q C [] f h g = absurd h
meet P Q C (x ∷ xs) f h g = ⊎_elim (λ a. f x a g.0) (λ b. meet P Q C xs f b g.1) h

-- ---- tests

pub or_false : (b : Bool) → (b || false) ≡ b
or_false true = refl
or_false false = refl

pub or_none : (a b : Bool) → (a || (b && false)) ≡ a
or_none true b = refl
or_none false true = refl
or_none false false = refl

pub not_below : (m n : ℕ) → nat_lt m n ≡ false → n ≤ m
not_below m n t = ⊎_elim (λ (l : m < n). absurd (both_ways (nat_lt m n) t (lt-ltb m n l))) (λ (g : n ≤ m). g) (cases_lt m n)

-- equality of numbers does not know left from right
pub turned : (a b : ℕ) → (a == b) ≡ (b == a)
turned a b = go (a == b) (b == a) refl refl where
  go : (x y : Bool) → (a == b) ≡ x → (b == a) ≡ y → x ≡ y
  go true true e f = refl
  go false false e f = refl
  go true false e f = absurd (both_ways (b == a) f (eq-eqb b a (sym (eqb-true a b e))))
  go false true e f = absurd (both_ways (a == b) e (eq-eqb a b (sym (eqb-true b a f))))
