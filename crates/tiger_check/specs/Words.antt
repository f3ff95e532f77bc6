-- Which words are this command.
use Rattle.std.specs.Prelude.{◌≡◌, ℕ, List, [], ◌∷◌, codes}

-- the words are `check NAME`
abbrev pub AsksCheck : List (List ℕ) → List ℕ → Type 0
AsksCheck words name = words ≡ codes "check" ∷ name ∷ []

abbrev pub IsNoCheck : List (List ℕ) → Type 0
IsNoCheck words = (name : List ℕ) → ¬ AsksCheck words name
