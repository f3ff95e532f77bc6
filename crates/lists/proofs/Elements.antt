-- Elements of lists that were put together, mapped and filtered; and choices by a test.
use Rattle.std.proofs.Common.{◌≡◌, List, [], ◌∷◌, ◌++◌, map, filter, Bool, true, false, cond, refl, sym, ap, subst, ◌∙◌, ⊎_elim, inl, inr}
use Rattle.std.specs.Prelude.{◌⊎◌}
use Rattle.std.specs.List.{flat_map}
use Rattle.lists.specs.Elements.{In, AppendsKeepElements, MapsKeepElements, FiltersKeepElements}

-- a choice has what each of its branches has
pub chosen : {X : Type 0} (P : X → Type 0) (b : Bool) (x y : X) → (b ≡ true → P x) → (b ≡ false → P y) → P (cond b x y)
chosen P true x y first second = first refl
chosen P false x y first second = second refl

pub in_left : {X : Type 0} (x : X) (xs ys : List X) → In x xs → In x (xs ++ ys)
in_left x [] ys i = absurd i
in_left x (z ∷ zs) ys i = ⊎_elim (λ e. inl e) (λ k. inr (in_left x zs ys k)) i

pub in_right : {X : Type 0} (x : X) (xs ys : List X) → In x ys → In x (xs ++ ys)
in_right x [] ys i = i
in_right x (z ∷ zs) ys i = inr (in_right x zs ys i)

pub in_cases : {X : Type 0} (x : X) (xs ys : List X) → In x (xs ++ ys) → In x xs ⊎ In x ys
in_cases x [] ys i = inr i
in_cases x (z ∷ zs) ys i = ⊎_elim (λ e. inl (inl e)) (λ k. ⊎_elim (λ q. inl (inr q)) (λ q. inr q) (in_cases x zs ys k)) i

pub in_map : {X Y : Type 0} (f : X → Y) (x : X) (xs : List X) → In x xs → In (f x) (map f xs)
in_map f x [] i = absurd i
in_map f x (z ∷ zs) i = ⊎_elim (λ e. inl (ap f e)) (λ k. inr (in_map f x zs k)) i

pub from_map : {X Y : Type 0} (f : X → Y) (y : Y) (xs : List X) → In y (map f xs) → (x : X) × In x xs × (y ≡ f x)
from_map f y [] i = absurd i
from_map f y (z ∷ zs) i = ⊎_elim (λ e. (z, inl refl, e)) (λ k. let r = from_map f y zs k in (r.0, inr r.1, r.2)) i

pub in_filter : {X : Type 0} (test : X → Bool) (x : X) (xs : List X) → In x xs → test x ≡ true → In x (filter test xs)
in_filter test x [] i t = absurd i
in_filter test x (z ∷ zs) i t = chosen (λ ys. In x ys) (test z) (z ∷ filter test zs) (filter test zs)
    (λ _. ⊎_elim (λ e. inl e) (λ k. inr (in_filter test x zs k t)) i)
    (λ f. ⊎_elim (λ e. let q : true ≡ false = sym t ∙ (ap test e ∙ f) in absurd (cc)) (λ k. in_filter test x zs k t) i)

pub from_filter : {X : Type 0} (test : X → Bool) (x : X) (xs : List X) → In x (filter test xs) → In x xs × (test x ≡ true)
from_filter test x [] i = absurd i
from_filter test x (z ∷ zs) i =
    chosen (λ ys. In x ys → In x (z ∷ zs) × (test x ≡ true)) (test z) (z ∷ filter test zs) (filter test zs)
    (λ t k. ⊎_elim (λ e. (inl e, ap test e ∙ t)) (λ l. let r = from_filter test x zs l in (inr r.0, r.1)) k)
    (λ _ k. let r = from_filter test x zs k in (inr r.0, r.1))
    i

pub in_flat_map : {X Y : Type 0} (f : X → List Y) (y : Y) (x : X) (xs : List X) → In x xs → In y (f x) → In y (flat_map f xs)
in_flat_map f y x [] i k = absurd i
in_flat_map {X} {Y} f y x (z ∷ zs) i k = ⊎_elim
    (λ e. in_left y (f z) (flat_map f zs) (subst (λ (w : X). In y (f w)) e k))
    (λ l. in_right y (f z) (flat_map f zs) (in_flat_map f y x zs l k))
    i

pub from_flat_map : {X Y : Type 0} (f : X → List Y) (y : Y) (xs : List X) → In y (flat_map f xs) → (x : X) × In x xs × In y (f x)
from_flat_map f y [] i = absurd i
from_flat_map f y (z ∷ zs) i = ⊎_elim (λ k. (z, inl refl, k)) (λ k. let r = from_flat_map f y zs k in (r.0, inr r.1, r.2))
    (in_cases y (f z) (flat_map f zs) i)

pub appends_keep : (X : Type 0) → AppendsKeepElements X
appends_keep X = record {
  all = λ x xs ys i. ⊎_elim (λ k. in_left x xs ys k) (λ k. in_right x xs ys k) i;
  only = in_cases;
}

pub maps_keep : (X Y : Type 0) → MapsKeepElements X Y
maps_keep X Y = record { all = in_map; only = from_map; all_made = in_flat_map; only_made = from_flat_map }

pub filters_keep : (X : Type 0) → FiltersKeepElements X
filters_keep X = record { all = in_filter; only = from_filter }
