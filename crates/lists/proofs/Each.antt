-- What holds of each element of lists that were put together, mapped, filtered and cut.
use Rattle.std.proofs.Common.{◌≡◌, List, [], ◌∷◌, ◌++◌, map, Bool, true, false, cond, refl, sym, subst, ⊎_elim, inl, inr}
use Rattle.std.specs.List.{flat_map, AllByRecursion}
use Rattle.lists.specs.Elements.{In, AllIsOfEach}

pub all_in : {X : Type 0} (P : X → Type 0) (x : X) (xs : List X) → AllByRecursion P xs → In x xs → P x
all_in P x [] all i = absurd i
all_in {X} P x (z ∷ zs) all i = ⊎_elim (λ e. subst P (sym e) all.0) (λ k. all_in P x zs all.1 k) i

pub all_by : {X : Type 0} (P : X → Type 0) (xs : List X) → ((x : X) → In x xs → P x) → AllByRecursion P xs
all_by P [] each = tt
all_by P (x ∷ xs) each = (each x (inl refl), all_by P xs (λ y i. each y (inr i)))

pub all_wider : {X : Type 0} (P Q : X → Type 0) → ((x : X) → P x → Q x) → (xs : List X) → AllByRecursion P xs → AllByRecursion Q xs
all_wider P Q wide [] all = tt
all_wider P Q wide (x ∷ xs) all = (wide x all.0, all_wider P Q wide xs all.1)

pub all_append : {X : Type 0} (P : X → Type 0) (xs ys : List X) → AllByRecursion P xs → AllByRecursion P ys → AllByRecursion P (xs ++ ys)
all_append P [] ys one two = two
all_append P (x ∷ xs) ys one two = (one.0, all_append P xs ys one.1 two)

pub all_map : {X Y : Type 0} (P : Y → Type 0) (f : X → Y) (xs : List X) → ((x : X) → In x xs → P (f x)) → AllByRecursion P (map f xs)
all_map P f [] each = tt
all_map P f (x ∷ xs) each = (each x (inl refl), all_map P f xs (λ y i. each y (inr i)))

pub all_flat_map : {X Y : Type 0} (P : Y → Type 0) (f : X → List Y) (xs : List X) → ((x : X) → In x xs → AllByRecursion P (f x))
    → AllByRecursion P (flat_map f xs)
all_flat_map P f [] each = tt
all_flat_map P f (x ∷ xs) each = all_append P (f x) (flat_map f xs) (each x (inl refl)) (all_flat_map P f xs (λ y i. each y (inr i)))

-- a list that is there only if a test holds
pub all_if : {X : Type 0} (P : X → Type 0) (b : Bool) (xs : List X) → (b ≡ true → AllByRecursion P xs) → AllByRecursion P (cond b xs [])
all_if P true xs each = each refl
all_if P false xs each = tt

pub all_of_each : (X Y : Type 0) → AllIsOfEach X Y
all_of_each X Y = record {
  each = λ test x xs all i. all_in (λ (y : X). test y ≡ true) x xs all i;
  all = λ test xs each. all_by (λ (y : X). test y ≡ true) xs each;
  appended = λ test xs ys one two. all_append (λ (y : X). test y ≡ true) xs ys one two;
  mapped = λ test f xs each. all_map (λ (y : Y). test y ≡ true) f xs each;
  made = λ test f xs each. all_flat_map (λ (y : Y). test y ≡ true) f xs each;
}
