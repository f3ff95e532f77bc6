-- Words and outputs of which the worked rows speak.
use Rattle.std.specs.Prelude.{ℕ, List, [], ◌∷◌, Some, codes}
use Rattle.std.specs.Fmt.{decimal}
use Rattle.outside.specs.Written.{SinkState}

-- the words to run the plan of a name
abbrev pub nets : List ℕ → List (List ℕ)
nets name = codes "net" ∷ name ∷ []

-- the words to write the journals of the run of a name, with this number of workers
abbrev pub journal_words : List ℕ → ℕ → List (List ℕ)
journal_words name workers = codes "journal" ∷ name ∷ decimal workers ∷ []

-- the words to run the scenario of a name in which disks may die, with this number of workers
abbrev pub spare_words : List ℕ → ℕ → List (List ℕ)
spare_words name workers = codes "spare" ∷ name ∷ decimal workers ∷ []

-- the words to check the scenario of a name
abbrev pub check_words : List ℕ → List (List ℕ)
check_words name = codes "check" ∷ name ∷ []

-- the words to audit the text of a name
abbrev pub audit_words : List ℕ → List (List ℕ)
audit_words name = codes "audit" ∷ name ∷ []

-- an output that tells these bytes, with this number of faults
abbrev pub sunk : List ℕ → ℕ → SinkState
sunk written faults = record { written = Some written; faults = faults }
