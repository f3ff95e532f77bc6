-- Lists in an order, each element once.
use Rattle.std.specs.Prelude.{◌≡◌, ℕ, suc, ◌+◌, ◌||◌, ◌&&◌, ◌==◌, nat_lt, Bool, true, false, List, [], ◌∷◌, Option, Some, None, if◌then◌else◌}
use Rattle.std.specs.List.{AllByRecursion}

-- whether numbers are less than others: the first that differ decide
abbrev pub is_less : List ℕ → List ℕ → Bool
is_less [] ys = false
is_less (x ∷ xs) [] = false
is_less (x ∷ xs) (y ∷ ys) = nat_lt x y || (x == y && is_less xs ys)

-- whether numbers are the same
abbrev pub are_same : List ℕ → List ℕ → Bool
are_same [] [] = true
are_same [] (y ∷ ys) = false
are_same (x ∷ xs) [] = false
are_same (x ∷ xs) (y ∷ ys) = x == y && are_same xs ys

-- each element comes before those behind it
abbrev pub IsSorted : {X : Type 0} → (X → X → Bool) → List X → Type 0
IsSorted before [] = Unit {0}
IsSorted before (x ∷ xs) = AllByRecursion (λ y. before x y ≡ true) xs × IsSorted before xs

-- the list with an element at its place in the order; one that is there stays as it is
abbrev pub with_one : {X : Type 0} → (X → X → Bool) → X → List X → List X
with_one before x [] = x ∷ []
with_one before x (y ∷ ys) =
    if before x y then x ∷ y ∷ ys
    else (if before y x then y ∷ with_one before x ys else y ∷ ys)

-- the elements of a list of any order, put in the order, each once
abbrev pub in_order : {X : Type 0} → (X → X → Bool) → List X → List X
in_order before [] = []
in_order before (x ∷ xs) = with_one before x (in_order before xs)

-- the place of a new element in a list whose first place has a number; none if it is there
abbrev pub gap_from : {X : Type 0} → (X → X → Bool) → X → ℕ → List X → Option ℕ
gap_from before x place [] = Some place
gap_from before x place (y ∷ ys) =
    if before x y then Some place
    else (if before y x then gap_from before x (place + 1) ys else None)

-- how many elements come before a given one, up to the first that does not
abbrev pub place_of : {X : Type 0} → (X → X → Bool) → X → List X → ℕ
place_of before x [] = 0
place_of before x (y ∷ ys) = if before y x then suc (place_of before x ys) else 0

-- the list without the first element that passes a test
abbrev pub without_first : {X : Type 0} → (X → Bool) → List X → List X
without_first test [] = []
without_first test (x ∷ xs) = if test x then xs else x ∷ without_first test xs

-- the first element, if it passes a test, and the list without it
abbrev pub first_if : {X : Type 0} → (X → Bool) → List X → Option X
first_if test [] = None
first_if test (x ∷ xs) = if test x then Some x else None

abbrev pub but_first_if : {X : Type 0} → (X → Bool) → List X → List X
but_first_if test [] = []
but_first_if test (x ∷ xs) = if test x then xs else x ∷ xs
