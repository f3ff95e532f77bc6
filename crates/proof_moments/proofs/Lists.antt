-- Elements of lists that have a property, and tests that elements pass.
use Rattle.std.proofs.Common.{◌≡◌, ◌≤◌, List, [], ◌∷◌, ◌++◌, filter, length, Bool, true, false, refl, ap, subst, arith, ⊎_elim, inl, inr}
use Rattle.std.specs.Prelude.{◌⊎◌}
use Rattle.std.specs.List.{list_any}
use Rattle.std.proofs.lemmas.Bool.{cases_Bool}
use Rattle.lists.specs.Elements.{In}
use Rattle.lists.proofs.Elements.{chosen}
use Rattle.lists.proofs.Each.{all_by}
use Rattle.run_facts.proofs.Rows.{filter-none}
use Rattle.run_model.specs.Fronts.{AnyByRecursion}
use Rattle.run_model.proofs.Reflects as reflects

-- ---- some element has a property

-- that element
pub any_by : {X : Type 0} (P : X → Type 0) (xs : List X) → AnyByRecursion P xs → (x : X) × In x xs × P x
any_by P [] h = absurd h
any_by P (x ∷ xs) h = ⊎_elim (λ q. (x, inl refl, q)) (λ k. let r = any_by P xs k in (r.0, inr r.1, r.2)) h

pub any_with : {X : Type 0} (P : X → Type 0) (xs : List X) (x : X) → In x xs → P x → AnyByRecursion P xs
any_with P [] x i h = absurd i
any_with P (y ∷ ys) x i h = ⊎_elim (λ q. inl (subst P q h)) (λ k. inr (any_with P ys x k h)) i

-- ---- tests that some element passes

pub any_passes : {X : Type 0} (test : X → Bool) (xs : List X) (x : X) → In x xs → test x ≡ true → list_any test xs ≡ true
any_passes {X} test xs x i t =
    reflects.any_gives (λ (y : X). test y ≡ true) test (λ y e. e) xs (any_with (λ (y : X). test y ≡ true) xs x i t)

pub any_passing : {X : Type 0} (test : X → Bool) (xs : List X) → list_any test xs ≡ true → (x : X) × In x xs × (test x ≡ true)
any_passing {X} test xs e = any_by (λ (x : X). test x ≡ true) xs (reflects.any_found (λ (x : X). test x ≡ true) test (λ x t. t) xs e)

-- if of two elements that pass none stands behind the other, one passes at most
pub one_passes : {X : Type 0} (test : X → Bool) (xs : List X)
    → ((front back : List X) (x y : X) → front ++ x ∷ back ≡ xs → In y back → test x ≡ true → test y ≡ true → ⊥) → length (filter test xs) ≤ 1
one_passes test [] h = omega arith
one_passes {X} test (x ∷ xs) h = chosen (λ (ys : List X). length ys ≤ 1) (test x) (x ∷ filter test xs) (filter test xs)
    (λ t.
    let none : filter test xs ≡ [] = filter-none test xs (all_by (λ y. test y ≡ false) xs
    (λ y i. ⊎_elim (λ (s : test y ≡ true). absurd (h [] xs x y refl i t s)) (λ (f : test y ≡ false). f) (cases_Bool (test y)))) in
    let size : length (filter test xs) ≡ 0 = ap (λ (ys : List X). length ys) none in
    omega arith)
    (λ _. one_passes test xs (λ front back a b e i t s. h (x ∷ front) back a b (ap (λ ys. x ∷ ys) e) i t s))
