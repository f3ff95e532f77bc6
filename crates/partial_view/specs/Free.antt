-- Which visits are free, of which disks no visit in the window is, and behind which visit one may be.
use Rattle.std.specs.Prelude.{◌≡◌, ℕ, ◌+◌, ◌≤◌, Bool, true, ◌==◌, not, List, filter, Option, is_some}
use Rattle.std.specs.List.{AllByRecursion}
use Rattle.std.specs.Option.{ForSome}
use Rattle.slot_plan.specs.declared.params.Params.{Params}
use Rattle.slot_plan.specs.Keys.{Key, IsKey, due_of, is_behind}
use Rattle.slot_plan.specs.Windows.{IsOpen}
use Rattle.partial_view.specs.declared.full_disks.FullDisk.{FullDisk}
use Rattle.partial_view.specs.declared.full_disks.FullDisks.{FullDisks}
use Rattle.partial_view.specs.declared.line.Line.{Line}
use Rattle.partial_view.specs.Views.{line_at}

-- whether no line is of the visit
unfoldable pub is_free : List Line → Key → Bool
is_free lines k = not (is_some (line_at k lines))

-- no visit of the disk that is in the window at the reading is free
abbrev pub IsFullAt : Params → ℕ → ℕ → List Line → Type 0
IsFullAt p disk reading lines = (k : Key) → ¬ IsOpen p reading disk (is_free lines) k

-- each visit of the disk that is in the window at the reading and free comes behind a given one, if
-- one is given
abbrev pub IsTakenTo : Params → ℕ → ℕ → Option Key → List Line → Type 0
IsTakenTo p disk reading last lines =
    (k : Key) → IsOpen p reading disk (is_free lines) k → is_behind p last k ≡ true

-- the visit came into the window at the reading or before it, and is in reach of the calls
abbrev pub HasEntered : Params → ℕ → Key → Type 0
HasEntered p reading k = IsKey p k × (due_of p k ≤ reading + p.window_a)

-- from a reading on no visit of the disk in the window is free before the disk's own time, and each
-- that is comes behind the disk's last visit, which has entered by then
pub record IsFull (p : Params) (from : ℕ) (lines : List Line) (x : FullDisk) : Type 0 where
  pub frees : (reading : ℕ) → from ≤ reading → (k : Key)
      → IsOpen p reading x.disk.0 (is_free lines) k
      → (x.until ≤ reading) × (is_behind p x.last k ≡ true)
  pub entered : ForSome x.last (HasEntered p from)

-- it is the disk, and full from the reading on
abbrev pub IsKnown : Params → ℕ → ℕ → List Line → FullDisk → Type 0
IsKnown p disk reading lines x = (x.disk.0 ≡ disk) × IsFull p reading lines x

-- each of the disks is full from the time on that is common to them
abbrev pub AreFull : Params → FullDisks → List Line → Type 0
AreFull p full lines = AllByRecursion (IsFull p full.from lines) full.disks.items

-- what is full with the one is full with the other, whatever the lines
abbrev pub StayFull : FullDisks → FullDisks → Type 0
StayFull old new = (p : Params) (lines : List Line) → AreFull p old lines → AreFull p new lines

-- whether it is the disk
abbrev pub is_disk : ℕ → FullDisk → Bool
is_disk disk x = x.disk.0 == disk

-- the others than a disk
abbrev pub others : ℕ → List FullDisk → List FullDisk
others disk xs = filter (λ x. not (is_disk disk x)) xs
