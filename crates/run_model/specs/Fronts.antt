-- What is so at the fronts of a list, as its elements come one after another.
use Rattle.std.specs.Prelude.{◌≡◌, List, [], ◌∷◌, ◌++◌, ◌⊎◌}

-- P holds before the first element, and after each
abbrev pub Always : {S X : Type 0} → (S → Type 0) → (S → X → S) → S → List X → Type 0
Always P f s [] = P s
Always P f s (x ∷ xs) = P s × Always P f (f s x) xs

-- R holds of each element, where it comes
abbrev pub AtEach : {S X : Type 0} → (S → X → Type 0) → (S → X → S) → S → List X → Type 0
AtEach R f s [] = Unit {0}
AtEach R f s (x ∷ xs) = R s x × AtEach R f (f s x) xs

-- P holds of each front of a list, the empty one and the whole among them
abbrev pub OfEachFront : {X : Type 0} → (List X → Type 0) → List X → Type 0
OfEachFront {X} P log = (front back : List X) → front ++ back ≡ log → P front

-- R holds of each element and of the front before it
abbrev pub OfEachEntry : {X : Type 0} → (List X → X → Type 0) → List X → Type 0
OfEachEntry {X} R log = (front : List X) (x : X) (back : List X) → front ++ x ∷ back ≡ log → R front x

-- P holds of some element
abbrev pub AnyByRecursion : {X : Type 0} → (X → Type 0) → List X → Type 0
AnyByRecursion P [] = ⊥
AnyByRecursion P (x ∷ xs) = P x ⊎ AnyByRecursion P xs
