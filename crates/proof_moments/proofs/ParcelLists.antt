-- Lists that are made of what each element of another gives.
use Rattle.std.proofs.Common.{◌≡◌, List, [], ◌∷◌, ◌++◌, filter, Bool, refl, sym, ap, ◌∙◌, inl, inr, append_assoc}
use Rattle.std.specs.Prelude.{◌⊎◌}
use Rattle.std.specs.List.{flat_map}
use Rattle.std.proofs.lemmas.Grind.{flat_map-append}
use Rattle.std.proofs.lemmas.List.Elements.{filter-append}
use Rattle.lists.specs.Elements.{In, IsBehind}
use Rattle.lists.proofs.Elements.{in_right, from_flat_map}
use Rattle.lists.proofs.Cuts.{cut_by}

-- ---- what the elements give

pub none_in : {X : Type 0} (xs : List X) → ((x : X) → In x xs → ⊥) → xs ≡ []
none_in [] h = refl
none_in (x ∷ xs) h = absurd (h x (inl refl))

pub none_given : {X Y : Type 0} (f : X → List Y) (xs : List X) → ((x : X) (y : Y) → In x xs → In y (f x) → ⊥)
    → flat_map f xs ≡ []
none_given f xs h = none_in (flat_map f xs) (λ y i. let r = from_flat_map f y xs i in h r.0 y r.1 r.2)

-- before an element, and behind it
pub before_it : {X : Type 0} (x z : X) (front back xs : List X) → front ++ x ∷ back ≡ xs → In z front → IsBehind z x xs
before_it {X} x z front back xs is i =
    let c = cut_by z front i in
    record {
      front = c.front;
      back = c.back ++ x ∷ back;
      is = sym (append_assoc c.front (z ∷ c.back) (x ∷ back)) ∙ ap (λ (l : List X). l ++ x ∷ back) c.is ∙ is;
      there = in_right x c.back (x ∷ back) (inl refl);
    }

-- if one element gives one thing, and none before or behind it gives any, that is all
pub only_given : {X Y : Type 0} (f : X → List Y) (xs : List X) (x : X) (y : Y) → In x xs → f x ≡ y ∷ []
    → ((z : X) (v : Y) → IsBehind z x xs ⊎ IsBehind x z xs → In v (f z) → ⊥)
    → flat_map f xs ≡ y ∷ []
only_given {X} {Y} f xs x y i one others =
    let c = cut_by x xs i in
    let before : flat_map f c.front ≡ [] = none_given f c.front
    (λ z v k l. others z v (inl (before_it x z c.front c.back xs c.is k)) l) in
    let behind : flat_map f c.back ≡ [] = none_given f c.back
    (λ z v k l. others z v (inr (record { front = c.front; back = c.back; is = c.is; there = k })) l) in
    ap (λ (l : List X). flat_map f l) (sym c.is)
    ∙ flat_map-append f c.front (x ∷ c.back)
    ∙ ap (λ (l : List Y). l ++ flat_map f (x ∷ c.back)) before
    ∙ ap (λ (l : List Y). l ++ flat_map f c.back) one
    ∙ ap (λ (l : List Y). y ∷ l) behind

pub filter_given : {X Y : Type 0} (test : Y → Bool) (f : X → List Y) (xs : List X)
    → filter test (flat_map f xs) ≡ flat_map (λ x. filter test (f x)) xs
filter_given test f [] = refl
filter_given {X} {Y} test f (x ∷ xs) = filter-append test (f x) (flat_map f xs)
    ∙ ap (λ (l : List Y). filter test (f x) ++ l) (filter_given test f xs)
