-- What a test is true of: the laws by which the tests of a definition's parts are a test of the whole.
use Rattle.std.proofs.Common.{◌≡◌, ℕ, zero, suc, ◌<◌, ◌≤◌, Bool, true, false, not, ◌&&◌, ◌||◌, IsTrue, nat_lt, nat_le, List, [], ◌∷◌, refl, sym, ⊎_elim, inl, inr, arith}
use Rattle.std.specs.Prelude.{◌==◌, ◌↔◌, ◌⊎◌}
use Rattle.std.specs.List.{list_any, list_all, AllByRecursion}
use Rattle.std.proofs.lemmas.Bool.{ltb-true, leb-true, lt-ltb, le-leb, eqb-true, eq-eqb, false≢true, cases_eq}
use Rattle.run_model.specs.Fronts.{AnyByRecursion}
use Rattle.run_model.specs.Tests.{all_below, some_below}

pub and_both : (a b : Bool) → IsTrue a → IsTrue b → IsTrue (a && b)
and_both true b h g = g
and_both false b h g = h

pub and_left : (a b : Bool) → IsTrue (a && b) → IsTrue a
and_left true b h = refl
and_left false b h = h

pub and_right : (a b : Bool) → IsTrue (a && b) → IsTrue b
and_right true b h = h
and_right false b h = absurd (false≢true h)

pub or_either : (a b : Bool) → IsTrue (a || b) → IsTrue a ⊎ IsTrue b
or_either true b h = inl refl
or_either false b h = inr h

pub or_first : (a b : Bool) → IsTrue a → IsTrue (a || b)
or_first true b h = refl
or_first false b h = absurd (false≢true h)

pub or_second : (a b : Bool) → IsTrue b → IsTrue (a || b)
or_second true b h = refl
or_second false b h = h

pub both : (a b : Bool) (P Q : Type 0) → IsTrue a ↔ P → IsTrue b ↔ Q → IsTrue (a && b) ↔ (P × Q)
both a b P Q p q = ((λ h. (p.0 (and_left a b h), q.0 (and_right a b h))), (λ h. and_both a b (p.1 h.0) (q.1 h.1)))

pub either : (a b : Bool) (P Q : Type 0) → IsTrue a ↔ P → IsTrue b ↔ Q → IsTrue (a || b) ↔ (P ⊎ Q)
either a b P Q p q = (
  (λ h. ⊎_elim (λ g. inl (p.0 g)) (λ g. inr (q.0 g)) (or_either a b h)),
  (λ h. ⊎_elim (λ g. or_first a b (p.1 g)) (λ g. or_second a b (q.1 g)) h),
)

pub negated : (a : Bool) → IsTrue (not a) ↔ (a ≡ false)
negated true = ((λ h. absurd (false≢true h)), (λ h. sym h))
negated false = ((λ h. refl), (λ h. refl))

pub equal : (m n : ℕ) → IsTrue (m == n) ↔ (m ≡ n)
equal m n = ((λ h. eqb-true m n h), (λ h. eq-eqb m n h))

pub less : (m n : ℕ) → IsTrue (nat_lt m n) ↔ (m < n)
less m n = ((λ h. ltb-true m n h), (λ h. lt-ltb m n h))

pub at_most : (m n : ℕ) → IsTrue (nat_le m n) ↔ (m ≤ n)
at_most m n = ((λ h. leb-true m n h), (λ h. le-leb m n h))

-- an element that a fact holds of is one that a test holds of
pub any_gives : {X : Type 0} (P : X → Type 0) (test : X → Bool) → ((x : X) → P x → IsTrue (test x)) → (xs : List X) → AnyByRecursion P xs → IsTrue (list_any test xs)
any_gives P test f [] h = absurd h
any_gives P test f (x ∷ xs) h = ⊎_elim (λ g. or_first (test x) (list_any test xs) (f x g)) (λ g. or_second (test x) (list_any test xs) (any_gives P test f xs g)) h

pub any_found : {X : Type 0} (P : X → Type 0) (test : X → Bool) → ((x : X) → IsTrue (test x) → P x) → (xs : List X) → IsTrue (list_any test xs) → AnyByRecursion P xs
any_found P test f [] h = absurd (false≢true h)
any_found P test f (x ∷ xs) h = ⊎_elim (λ g. inl (f x g)) (λ g. inr (any_found P test f xs g)) (or_either (test x) (list_any test xs) h)

pub any : {X : Type 0} (P : X → Type 0) (test : X → Bool) → ((x : X) → IsTrue (test x) ↔ P x) → (xs : List X) → IsTrue (list_any test xs) ↔ AnyByRecursion P xs
any P test f xs = (any_found P test (λ x. (f x).0) xs, any_gives P test (λ x. (f x).1) xs)

pub all_found : {X : Type 0} (P : X → Type 0) (test : X → Bool) → ((x : X) → IsTrue (test x) → P x) → (xs : List X) → IsTrue (list_all test xs) → AllByRecursion P xs
all_found P test f [] h = tt
all_found P test f (x ∷ xs) h = (f x (and_left (test x) (list_all test xs) h), all_found P test f xs (and_right (test x) (list_all test xs) h))

pub all_gives : {X : Type 0} (P : X → Type 0) (test : X → Bool) → ((x : X) → P x → IsTrue (test x)) → (xs : List X) → AllByRecursion P xs → IsTrue (list_all test xs)
all_gives P test f [] h = refl
all_gives P test f (x ∷ xs) h = and_both (test x) (list_all test xs) (f x h.0) (all_gives P test f xs h.1)

pub all : {X : Type 0} (P : X → Type 0) (test : X → Bool) → ((x : X) → IsTrue (test x) ↔ P x) → (xs : List X) → IsTrue (list_all test xs) ↔ AllByRecursion P xs
all P test f xs = (all_found P test (λ x. (f x).0) xs, all_gives P test (λ x. (f x).1) xs)

pub each_found : (test : ℕ → Bool) (n : ℕ) → IsTrue (all_below test n) → (k : ℕ) → k < n → IsTrue (test k)
each_found test zero h k l = absurd (omega arith)
each_found test (suc n) h k l = ⊎_elim
    (λ (e : k ≡ n). rw e (and_right (all_below test n) (test n) h))
    (λ (ne : k ≡ n → ⊥). each_found test n (and_left (all_below test n) (test n) h) k (omega arith))
    (cases_eq k n)

pub each_gives : (test : ℕ → Bool) (n : ℕ) → ((k : ℕ) → k < n → IsTrue (test k)) → IsTrue (all_below test n)
each_gives test zero h = refl
each_gives test (suc n) h = and_both (all_below test n) (test n) (each_gives test n (λ k l. h k (omega arith))) (h n (omega arith))

pub some_gives : (test : ℕ → Bool) (n k : ℕ) → k < n → IsTrue (test k) → IsTrue (some_below test n)
some_gives test zero k l h = absurd (omega arith)
some_gives test (suc n) k l h = ⊎_elim
    (λ (e : k ≡ n). or_second (some_below test n) (test n) (rw (← e) h))
    (λ (ne : k ≡ n → ⊥). or_first (some_below test n) (test n) (some_gives test n k (omega arith) h))
    (cases_eq k n)

pub some_found : (test : ℕ → Bool) (n : ℕ) → IsTrue (some_below test n) → (k : ℕ) × (k < n) × IsTrue (test k)
some_found test zero h = absurd (false≢true h)
some_found test (suc n) h = ⊎_elim
    (λ g. let rest = some_found test n g in (rest.0, omega arith, rest.2))
    (λ g. (n, omega arith, g))
    (or_either (some_below test n) (test n) h)
