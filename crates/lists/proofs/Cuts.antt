-- Where elements stand in a list.
use Rattle.std.proofs.Common.{◌≡◌, List, [], ◌∷◌, sym, ap, ◌∙◌, ⊎_elim, inl, inr}
use Rattle.std.specs.Prelude.{◌⊎◌}
use Rattle.lists.specs.Elements.{In, IsCutBy, IsBehind, ElementsStandSomewhere}

pub cut_by : {X : Type 0} (x : X) (xs : List X) → In x xs → IsCutBy x xs
cut_by x [] i = absurd i
cut_by x (y ∷ ys) i = ⊎_elim
    (λ e. record { front = []; back = ys; is = ap (λ z. z ∷ ys) e })
    (λ k. let r = cut_by x ys k in record { front = y ∷ r.front; back = r.back; is = ap (λ l. y ∷ l) r.is })
    i

behind_more : {X : Type 0} (z x y : X) (xs : List X) → IsBehind x y xs → IsBehind x y (z ∷ xs)
behind_more z x y xs b = record { front = z ∷ b.front; back = b.back; is = ap (λ l. z ∷ l) b.is; there = b.there }

-- of two elements one stands behind the other, or they are the same
pub which_first : {X : Type 0} (x y : X) (xs : List X) → In x xs → In y xs → (x ≡ y) ⊎ (IsBehind x y xs ⊎ IsBehind y x xs)
which_first x y [] i k = absurd i
which_first x y (z ∷ zs) i k = ⊎_elim
    (λ (e : x ≡ z). ⊎_elim
    (λ (d : y ≡ z). inl (e ∙ sym d))
    (λ j. inr (inl (record { front = []; back = zs; is = ap (λ v. v ∷ zs) e; there = j })))
    k)
    (λ j. ⊎_elim
    (λ (d : y ≡ z). inr (inr (record { front = []; back = zs; is = ap (λ v. v ∷ zs) d; there = j })))
    (λ l. ⊎_elim
    (λ same. inl same)
    (λ o. ⊎_elim (λ b. inr (inl (behind_more z x y zs b))) (λ b. inr (inr (behind_more z y x zs b))) o)
    (which_first x y zs j l))
    k)
    i

pub stand_somewhere : (X : Type 0) → ElementsStandSomewhere X
stand_somewhere X = record { cut = cut_by; order = which_first }
