-- Command lines and sources of files of which the worked rows speak.
use Rattle.std.specs.Prelude.{◌≡◌, ℕ, ◌≤◌, List, [], ◌∷◌, length, Ok, codes, if◌then◌else◌}
use Rattle.std.specs.Fmt.{decimal}
use Rattle.std.specs.Str.{bytes_eq}
use Rattle.outside.specs.Told.{Told, FilesState}
use Rattle.scenario_read.specs.Meaning.{Said, meaning}
use Rattle.tiger_input.specs.Inputs.{names_of, most_scenario}

-- The words to run the scenario of a name with so many workers, and to make the one of a number.
abbrev pub runs : List ℕ → ℕ → List (List ℕ)
runs name workers = codes "run" ∷ name ∷ decimal workers ∷ []

abbrev pub makes : ℕ → List (List ℕ)
makes number = codes "make" ∷ decimal number ∷ []

-- The names of a scenario, of another one, and of a file.
abbrev pub here : List ℕ
here = codes "a"

abbrev pub there : List ℕ
there = codes "b"

abbrev pub film : List ℕ
film = codes "film"

-- A source that tells this, after so many calls, of which so many failed and so many found no file.
abbrev pub source : (List ℕ → Told) → ℕ → ℕ → ℕ → FilesState
source told calls faults absences =
    record { told = told; counts = record { calls = calls; faults = faults; absences = absences } }

-- The file is told so, and each other name so.
abbrev pub tells : Told → Told → List ℕ → Told
tells file other name = if bytes_eq name film then file else other

-- This text is a scenario that breaks no rule and names one file, which is the file.
pub record IsOfFilm (text : List ℕ) (said : Said) : Type 0 where
  pub short : length text ≤ most_scenario
  pub means : meaning text ≡ Ok said
  pub files : names_of said.files ≡ film ∷ []
