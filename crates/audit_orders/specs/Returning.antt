-- Where a journal does not tell its node's return.
use Rattle.std.specs.Prelude.{◌≡◌, ℕ, ◌+◌, ◌<◌, true, List, length, Option, Some, slice_get, ◌⊎◌}
use Rattle.node_kit.specs.declared.course.Course.{Course}
use Rattle.node_kit.specs.declared.journal.Entry.{Entry}
use Rattle.node_kit.specs.Life.{back_of}
use Rattle.run_model.specs.Runs.{TellsReturn, ends_dead}
use Rattle.audit_orders.specs.Breaches.{IsBreach, IsUnfinished}

-- a journal tells its node's return as the course has it; so do those of the nodes below a number, and so do all
abbrev pub TellsReturnIn : Course → ℕ → List Entry → Type 0
TellsReturnIn c n journal = TellsReturn c.beats (back_of c n) journal

abbrev pub TellReturnsBelow : Course → ℕ → List (List Entry) → Type 0
TellReturnsBelow c n journals =
    (m : ℕ) (journal : List Entry) → m < n → slice_get journals m ≡ Some journal → TellsReturnIn c m journal

abbrev pub TellReturns : Course → List (List Entry) → Type 0
TellReturns c journals = (n : ℕ) (journal : List Entry) → slice_get journals n ≡ Some journal → TellsReturnIn c n journal

-- no entry breaks that, but the last one is a death, behind which the return is missing
pub record LacksReturn (beats : ℕ) (back : Option ℕ) (journal : List Entry) (i : ℕ) : Type 0 where
  pub unfinished : IsUnfinished (TellsReturn beats back) journal
  pub last : length journal ≡ i + 1
  pub dies : ends_dead journal ≡ true

-- an entry breaks it, or lacks the return behind it
abbrev pub IsUntoldAt : ℕ → Option ℕ → List Entry → ℕ → Type 0
IsUntoldAt beats back journal i = IsBreach (TellsReturn beats back) journal i ⊎ LacksReturn beats back journal i

-- the journal of a node is the first that does not tell its return, and does not at this entry
pub record IsFirstUntold (c : Course) (journals : List (List Entry)) (n i : ℕ) : Type 0 where
  pub lower : TellReturnsBelow c n journals
  pub journal : List Entry
  pub here : slice_get journals n ≡ Some journal
  pub untold : IsUntoldAt c.beats (back_of c n) journal i
