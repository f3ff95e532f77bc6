-- Which words are this command.
use Rattle.std.specs.Prelude.{◌≡◌, ℕ, Bool, true, false, List, [], ◌∷◌, codes}

-- the word behind the names, if an image that exists is to be written over
abbrev pub force_word : Bool → List (List ℕ)
force_word false = []
force_word true = codes "--force" ∷ []

-- the words are `disks NAME IMAGE`, with `--force` behind them or not
abbrev pub AsksDisks : List (List ℕ) → List ℕ → List ℕ → Bool → Type 0
AsksDisks words name image over = words ≡ codes "disks" ∷ name ∷ image ∷ force_word over

-- they are not so for any names
abbrev pub AsksNone : List (List ℕ) → Bool → Type 0
AsksNone words over = (name image : List ℕ) → ¬ AsksDisks words name image over

-- they are so neither with that word nor without it
abbrev pub IsNoDisks : List (List ℕ) → Type 0
IsNoDisks words = (name image : List ℕ) (over : Bool) → ¬ AsksDisks words name image over
