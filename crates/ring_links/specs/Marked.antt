-- The rule of a link's word. It exists beside a log of all that was written; one seat at most writes, and it has the
-- whole log. Each seat knows a prefix of it.
use Rattle.std.specs.Prelude.{◌≡◌, ℕ, ◌/◌, ◌%◌, Bool, true, List, [], ◌∷◌, ◌++◌}
use mathlib.Core.Option.{some}
use mathlib.Core.List.{IsPrefix}
use lib.ListN.{get_elem?}
use Rattle.atomic_table.specs.Table.{State, Me, Step}
use Rattle.ring_links.specs.declared.board.Knows.{Knows}

abbrev pub knows : Bool → List ℕ → List ℕ → Knows
knows a marks told = record { writes = a; marks = marks; told = told }

-- the number of messages that were sent before a word was written
abbrev pub given_by : ℕ → ℕ
given_by word = word / 1048576

-- the beat below which all are closed by a word
abbrev pub below_of : ℕ → ℕ
below_of word = word % 1048576

-- the last of the words
abbrev pub IsLast : List ℕ → ℕ → Type 0
IsLast marks word = (front : List ℕ) × (marks ≡ front ++ word ∷ [])

abbrev pub Fits : ℕ → List ℕ → ℕ → Knows → Type 0
Fits writer log port v =
    (v.writes ≡ true → (port ≡ writer) × (v.marks ≡ log)) × IsPrefix v.marks log × IsPrefix v.told log

abbrev pub Marked : State ℕ Knows → Type 0
Marked s =
    (writer : ℕ) × (log : List ℕ) × (word : ℕ) × (s.words ≡ word ∷ []) × IsLast log word
    × ((port : ℕ) (v : Knows) → get_elem? s.views port ≡ some v → Fits writer log port v)

-- a word was written
abbrev pub Marks : Step ℕ → Me ℕ Knows → ℕ → Me ℕ Knows → Type 0
Marks s v found w = (w.0 ≡ knows v.0.writes (v.0.marks ++ s.first ∷ []) v.0.told) × (w.1 ≡ v.1)

-- the last word was read, and all that were written by then are known
abbrev pub Looks : Step ℕ → Me ℕ Knows → ℕ → Me ℕ Knows → Type 0
Looks s v found w =
    (w.0.writes ≡ v.0.writes) × IsPrefix v.0.marks w.0.marks × IsLast w.0.marks found × (w.1 ≡ v.1)

-- what the seat was told of is a prefix of what it wrote
abbrev pub Agrees : Step ℕ → Me ℕ Knows → ℕ → Me ℕ Knows → Type 0
Agrees s v found w = (w ≡ v) × IsPrefix v.0.told v.0.marks
