-- Words and names of which the worked rows speak.
use Rattle.std.specs.Prelude.{ℕ, List, ◌∷◌, codes}

-- the names of a scenario and of an image
abbrev pub one_name : List ℕ
one_name = codes "one.json"

abbrev pub image_name : List ℕ
image_name = codes "tiger.img"

-- the words with this word behind them
abbrev pub disks_words : List (List ℕ) → List (List ℕ)
disks_words last = codes "disks" ∷ one_name ∷ image_name ∷ last
