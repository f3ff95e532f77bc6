-- Lists that are put together and cut elsewhere, and lists whose keys never fall.
use Rattle.std.proofs.Common.{◌≡◌, ℕ, ◌≤◌, List, [], ◌∷◌, ◌++◌, refl, sym, ap, ◌∙◌, ⊎_elim, inl, inr, zero, suc, ◌<◌, length, Some, arith}
use Rattle.std.specs.Prelude.{◌⊎◌, slice_get}
use Rattle.run_facts.specs.Accounts.{Rising}
use Rattle.run_facts.proofs.Rows.{all-append}
use Rattle.lists.specs.Elements.{In}
use Rattle.std.specs.List.{AllByRecursion}
use Rattle.std.proofs.lemmas.Option.{none-some}

-- what holds of each element
pub all_from : {X : Type 0} (P : X → Type 0) (xs : List X) → ((x : X) → In x xs → P x) → AllByRecursion P xs
all_from P [] h = tt
all_from P (x ∷ xs) h = (h x (inl refl), all_from P xs (λ y i. h y (inr i)))

-- a journal that is there has a number below the count
pub numbered_below : {X : Type 0} (xs : List X) (n : ℕ) (x : X) → slice_get xs n ≡ Some x → n < length xs
numbered_below [] n x e = absurd (none-some x e)
numbered_below (y ∷ ys) zero x e = omega arith
numbered_below (y ∷ ys) (suc n) x e = let l = numbered_below ys n x e in omega arith

-- of two cuts of a list the one is not behind the other
pub record IsAhead {X : Type 0} (xs ys zs ws : List X) : Type 0 where
  pub between : List X
  pub front : xs ++ between ≡ zs
  pub back : between ++ ws ≡ ys

pub two_cuts : {X : Type 0} (xs ys zs ws : List X) → xs ++ ys ≡ zs ++ ws → IsAhead xs ys zs ws ⊎ IsAhead zs ws xs ys
two_cuts [] ys zs ws e = inl (record { between = zs; front = refl; back = sym e })
two_cuts (x ∷ xs) ys [] ws e = inr (record { between = x ∷ xs; front = refl; back = e })
two_cuts (x ∷ xs) ys (z ∷ zs) ws e =
    let head : x ≡ z = cc in
    let tail : xs ++ ys ≡ zs ++ ws = cc in
    ⊎_elim
    (λ a. inl (record { between = a.between; front = ap (λ l. x ∷ l) a.front ∙ ap (λ y. y ∷ zs) head; back = a.back }))
    (λ a. inr (record { between = a.between; front = ap (λ l. z ∷ l) a.front ∙ ap (λ y. y ∷ xs) (sym head); back = a.back }))
    (two_cuts xs ys zs ws tail)

-- behind lists whose keys never fall comes one whose keys are not lower
pub rising_joined : {X : Type 0} (f : X → ℕ) (xs ys : List X) → Rising f xs → Rising f ys → ((x y : X) → In x xs → In y ys → f x ≤ f y) → Rising f (xs ++ ys)
rising_joined f [] ys r s h = s
rising_joined f (x ∷ xs) ys r s h = (
  all-append (λ y. f x ≤ f y) xs ys r.0 (all_from (λ y. f x ≤ f y) ys (λ y i. h x y (inl refl) i)),
  rising_joined f xs ys r.1 s (λ z y i k. h z y (inr i) k),
)
