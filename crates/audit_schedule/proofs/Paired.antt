-- What holds of each element of one list with each of another.
use Rattle.std.proofs.Common.{List, [], ◌∷◌, ◌++◌}
use Rattle.std.specs.List.{AllByRecursion}
use Rattle.run_facts.proofs.Rows.{all-append, all-left, all-right}

abbrev pub Pairs : {X : Type 0} → (X → X → Type 0) → List X → List X → Type 0
Pairs P xs ys = AllByRecursion (λ x. AllByRecursion (P x) ys) xs

-- the same, the other way round
abbrev pub Turned : {X : Type 0} → (X → X → Type 0) → List X → List X → Type 0
Turned P xs ys = AllByRecursion (λ y. AllByRecursion (λ x. P x y) xs) ys

pub pairs_with_none : {X : Type 0} (P : X → X → Type 0) (xs : List X) → Pairs P xs []
pairs_with_none P [] = tt
pairs_with_none P (x ∷ xs) = (tt, pairs_with_none P xs)

pub pairs_with_both : {X : Type 0} (P : X → X → Type 0) (xs ys zs : List X) → Pairs P xs ys → Pairs P xs zs → Pairs P xs (ys ++ zs)
pairs_with_both P [] ys zs h g = tt
pairs_with_both P (x ∷ xs) ys zs h g = (all-append (P x) ys zs h.0 g.0, pairs_with_both P xs ys zs h.1 g.1)

pub pairs_with_first : {X : Type 0} (P : X → X → Type 0) (xs ys zs : List X) → Pairs P xs (ys ++ zs) → Pairs P xs ys
pairs_with_first P [] ys zs h = tt
pairs_with_first P (x ∷ xs) ys zs h = (all-left (P x) ys zs h.0, pairs_with_first P xs ys zs h.1)

pub pairs_with_second : {X : Type 0} (P : X → X → Type 0) (xs ys zs : List X) → Pairs P xs (ys ++ zs) → Pairs P xs zs
pairs_with_second P [] ys zs h = tt
pairs_with_second P (x ∷ xs) ys zs h = (all-right (P x) ys zs h.0, pairs_with_second P xs ys zs h.1)

heads : {X : Type 0} (P : X → X → Type 0) (xs : List X) (y : X) (ys : List X) → Pairs P xs (y ∷ ys) → AllByRecursion (λ x. P x y) xs
heads P [] y ys h = tt
heads P (x ∷ xs) y ys h = (h.0.0, heads P xs y ys h.1)

tails : {X : Type 0} (P : X → X → Type 0) (xs : List X) (y : X) (ys : List X) → Pairs P xs (y ∷ ys) → Pairs P xs ys
tails P [] y ys h = tt
tails P (x ∷ xs) y ys h = (h.0.1, tails P xs y ys h.1)

joined : {X : Type 0} (P : X → X → Type 0) (xs : List X) (y : X) (ys : List X) → AllByRecursion (λ x. P x y) xs → Pairs P xs ys
    → Pairs P xs (y ∷ ys)
joined P [] y ys h g = tt
joined P (x ∷ xs) y ys h g = ((h.0, g.0), joined P xs y ys h.1 g.1)

pub turn : {X : Type 0} (P : X → X → Type 0) (xs ys : List X) → Pairs P xs ys → Turned P xs ys
turn P xs [] h = tt
turn P xs (y ∷ ys) h = (heads P xs y ys h, turn P xs ys (tails P xs y ys h))

pub turn_back : {X : Type 0} (P : X → X → Type 0) (xs ys : List X) → Turned P xs ys → Pairs P xs ys
turn_back P xs [] h = pairs_with_none P xs
turn_back P xs (y ∷ ys) h = joined P xs y ys h.0 (turn_back P xs ys h.1)
