-- That there is one answer: what the words and the files told determine, whoever runs the ring and with how many workers.
use Rattle.std.specs.Prelude.{◌≡◌, ℕ, List, ◌⊎◌}
use Rattle.node_kit.specs.declared.course.Kept.{Kept}
use Rattle.outside.specs.Told.{Told, FilesState}
use Rattle.tiger_input.specs.Words.{IsRun, IsMake}
use Rattle.tiger_run.specs.Ending.{IsAskedRun, text_for}

-- words that ask for the same: for the scenario of one name, with whatever numbers of workers, or for that of one number
abbrev pub AskTheSame : List (List ℕ) → List (List ℕ) → Type 0
AskTheSame words others =
    ((name : List ℕ) × (some : ℕ) × (more : ℕ) × IsRun words name some × IsRun others name more)
    ⊎ ((number : ℕ) × IsMake words number × IsMake others number)

-- What is kept is the one answer to words over files of which this is told: whatever else is kept of a run that the same
-- is asked of, over files of which the same is told, is the same, and so is its text.
abbrev pub IsTheAnswer : (G : Type 0) → (List ℕ → Told) → List (List ℕ) → Kept → Type 0
IsTheAnswer G told words k =
    (old new : FilesState) (others : List (List ℕ)) (other : Kept)
    → old.told ≡ told → AskTheSame words others → IsAskedRun G old new others other
    → (other ≡ k) × (text_for others other ≡ text_for words k)
