-- Where the search for a disk's next visit begins, and what it finds.
use Rattle.std.specs.Prelude.{◌≡◌, ℕ, ◌+◌, ◌<◌, ◌≤◌, max, Option, Some, None}
use Rattle.slot_plan.specs.declared.params.Params.{Params}
use Rattle.slot_plan.specs.Times.{disk_of}
use Rattle.slot_plan.specs.Keys.{Key, due_of}

-- the visit of the disk is due between two times
pub record IsBetween (p : Params) (disk low high : ℕ) (k : Key) : Type 0 where
  pub in_plan : k.0.0 < p.slots
  pub on_disk : disk_of p k.1 ≡ disk
  pub from : low ≤ due_of p k
  pub last : due_of p k ≤ high

-- of these visits it is the one that is due first
pub record IsFirstBetween (p : Params) (disk low high : ℕ) (k : Key) : Type 0 where
  pub here : IsBetween p disk low high k
  pub first : (j : Key) → IsBetween p disk low high j → due_of p k ≤ due_of p j

-- of the visits of the disk that are due at a time or after it, it is the one that is due first
pub record IsFirstFrom (p : Params) (disk time : ℕ) (k : Key) : Type 0 where
  pub in_plan : k.0.0 < p.slots
  pub on_disk : disk_of p k.1 ≡ disk
  pub from : time ≤ due_of p k
  pub first : (j : Key) → j.0.0 < p.slots → disk_of p j.1 ≡ disk → time ≤ due_of p j
      → due_of p k ≤ due_of p j

-- each visit of the disk that comes into the window after one reading comes into it at another one
-- or later
abbrev pub EntersFrom : Params → ℕ → ℕ → ℕ → Type 0
EntersFrom p disk reading until =
    (k : Key) → k.0.0 < p.slots → disk_of p k.1 ≡ disk
    → reading + p.window_a < due_of p k → until + p.window_a ≤ due_of p k

-- the next visit of the disk that comes into the window after one reading comes into it at another
-- one
pub record IsNextEntry (p : Params) (disk reading until : ℕ) : Type 0 where
  pub key : Key
  pub next : IsFirstFrom p disk (reading + p.window_a + 1) key
  pub opens : until + p.window_a ≡ due_of p key

-- the earliest time at which an open visit that comes behind the given one can be due
abbrev pub from_of : Params → ℕ → Option Key → ℕ
from_of p reading None = reading + p.window_b + 1
from_of p reading (Some a) = max (reading + p.window_b + 1) (due_of p a)
