-- The elements of a list, and which elements a list has that is made of others.
use Rattle.std.specs.Prelude.{◌≡◌, ◌⊎◌, ◌++◌, List, [], ◌∷◌, Bool, true, filter, map}
use Rattle.std.specs.List.{AllByRecursion, flat_map}

-- x is an element of a list
abbrev pub In : {X : Type 0} → X → List X → Type 0
In x [] = ⊥
In x (y ∷ ys) = (x ≡ y) ⊎ In x ys

-- an element cuts its list
pub record IsCutBy {X : Type 0} (x : X) (xs : List X) : Type 0 where
  pub front : List X
  pub back : List X
  pub is : front ++ x ∷ back ≡ xs

-- y stands behind x
pub record IsBehind {X : Type 0} (x y : X) (xs : List X) : Type 0 where
  pub front : List X
  pub back : List X
  pub is : front ++ x ∷ back ≡ xs
  pub there : In y back

pub record AppendsKeepElements (X : Type 0) : Type 0 where
  pub all : (x : X) (xs ys : List X) → In x xs ⊎ In x ys → In x (xs ++ ys)
  pub only : (x : X) (xs ys : List X) → In x (xs ++ ys) → In x xs ⊎ In x ys

pub record MapsKeepElements (X Y : Type 0) : Type 0 where
  pub all : (f : X → Y) (x : X) (xs : List X) → In x xs → In (f x) (map f xs)
  pub only : (f : X → Y) (y : Y) (xs : List X) → In y (map f xs) → (x : X) × In x xs × (y ≡ f x)
  -- and what a function makes lists of
  pub all_made : (f : X → List Y) (y : Y) (x : X) (xs : List X) → In x xs → In y (f x) → In y (flat_map f xs)
  pub only_made : (f : X → List Y) (y : Y) (xs : List X) → In y (flat_map f xs) → (x : X) × In x xs × In y (f x)

pub record FiltersKeepElements (X : Type 0) : Type 0 where
  pub all : (test : X → Bool) (x : X) (xs : List X) → In x xs → test x ≡ true → In x (filter test xs)
  pub only : (test : X → Bool) (x : X) (xs : List X) → In x (filter test xs) → In x xs × (test x ≡ true)

pub record ElementsStandSomewhere (X : Type 0) : Type 0 where
  pub cut : (x : X) (xs : List X) → In x xs → IsCutBy x xs
  pub order : (x y : X) (xs : List X) → In x xs → In y xs → (x ≡ y) ⊎ (IsBehind x y xs ⊎ IsBehind y x xs)

-- all elements pass a test
abbrev pub AllPass : {X : Type 0} → (X → Bool) → List X → Type 0
AllPass {X} test xs = AllByRecursion (λ (x : X). test x ≡ true) xs

-- what holds of all elements holds of each, however the list was made
pub record AllIsOfEach (X Y : Type 0) : Type 0 where
  pub each : (test : X → Bool) (x : X) (xs : List X) → AllPass test xs → In x xs → test x ≡ true
  pub all : (test : X → Bool) (xs : List X) → ((x : X) → In x xs → test x ≡ true) → AllPass test xs
  pub appended : (test : X → Bool) (xs ys : List X) → AllPass test xs → AllPass test ys → AllPass test (xs ++ ys)
  pub mapped : (test : Y → Bool) (f : X → Y) (xs : List X) → ((x : X) → In x xs → test (f x) ≡ true) → AllPass test (map f xs)
  pub made : (test : Y → Bool) (f : X → List Y) (xs : List X) → ((x : X) → In x xs → AllPass test (f x)) → AllPass test (flat_map f xs)
