-- Which words are this command.
use Rattle.std.specs.Prelude.{◌≡◌, ℕ, List, [], ◌∷◌, codes}

-- the words are `audit NAME`
abbrev pub AsksAudit : List (List ℕ) → List ℕ → Type 0
AsksAudit words name = words ≡ codes "audit" ∷ name ∷ []

abbrev pub IsNoAudit : List (List ℕ) → Type 0
IsNoAudit words = (name : List ℕ) → ¬ AsksAudit words name
