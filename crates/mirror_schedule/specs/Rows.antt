-- Things in an order, of which some were taken out again: those that stand are kept in rows.
use Rattle.std.specs.Prelude.{◌≡◌, ℕ, ◌&&◌, ◌==◌, not, Bool, false, List, [], ◌∷◌, filter, get_or}
use Rattle.std.specs.List.{list_any}

module _ {X : Type 0} (before : X → X → Bool) where
  -- whether two things are one: neither comes before the other
  abbrev pub is_one : X → X → Bool
  is_one x y = not (before x y) && not (before y x)

  -- whether a thing is among some
  abbrev pub is_among : X → List X → Bool
  is_among x ys = list_any (is_one x) ys

  -- the row of a number; one that is not there yet is empty
  abbrev pub row_numbered : List (List X) → ℕ → List X
  row_numbered rows n = get_or rows n []

  module _ (row : X → ℕ) where
    -- whether a thing stands in the row of its number
    abbrev pub stands : List (List X) → X → Bool
    stands rows x = is_among x (row_numbered rows (row x))

    -- those of some things that stand
    abbrev pub those_standing : List (List X) → List X → List X
    those_standing rows xs = filter (stands rows) xs

    -- each row has those that stand and are of its number, in their order
    abbrev pub AreRows : List (List X) → List X → Type 0
    AreRows rows xs = (n : ℕ) → row_numbered rows n ≡ filter (λ x. row x == n) (those_standing rows xs)

    -- whether the first thing stands no longer
    abbrev pub is_first_gone : List (List X) → List X → Bool
    is_first_gone rows [] = false
    is_first_gone rows (x ∷ xs) = not (stands rows x)
