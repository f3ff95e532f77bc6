-- Which visits of a disk stand in the window, and which of them comes first.
use Rattle.std.specs.Prelude.{◌≡◌, ℕ, ◌+◌, ◌<◌, zero, suc, Bool, ◌&&◌, ◌==◌, IsTrue, Option, Some, None, if◌then◌else◌}
use Rattle.slot_plan.specs.declared.params.Params.{Params}
use Rattle.slot_plan.specs.Times.{disk_of, in_window, visit_by}
use Rattle.slot_plan.specs.Keys.{Key, is_earlier, sooner}

-- the visit of the disk is in the window at the reading, and passes a test
pub record IsOpen (p : Params) (reading disk : ℕ) (test : Key → Bool) (k : Key) : Type 0 where
  pub in_plan : k.0.0 < p.slots
  pub on_disk : disk_of p k.1 ≡ disk
  pub window : IsTrue (in_window p reading k.0.0 k.1)
  pub passes : IsTrue (test k)

-- of these visits it is the one before all others
pub record IsLeastOpen (p : Params) (reading disk : ℕ) (test : Key → Bool) (k : Key) : Type 0 where
  pub here : IsOpen p reading disk test k
  pub least : (j : Key) → IsOpen p reading disk test j → ¬ IsTrue (is_earlier p j k)

-- whether the visit of the disk is in the window, and passes a test
abbrev pub is_open : Params → ℕ → ℕ → (Key → Bool) → Key → Bool
is_open p reading disk test k = (disk_of p k.1 == disk) && in_window p reading k.0.0 k.1 && test k

-- a visit, if it passes a test
abbrev pub passing : (Key → Bool) → ℕ → Option ℕ → Option Key
passing test slot None = None
passing test slot (Some n) =
    if test (record { 0 = slot }, n) then Some (record { 0 = slot }, n) else None

-- the one visit of a slot that can be in the window, the last that is due when the window opens, if
-- it passes a test
unfoldable pub slot_visit : Params → ℕ → (Key → Bool) → ℕ → Option Key
slot_visit p reading test slot = passing test slot (visit_by p slot (reading + p.window_a))

-- the earliest of these visits of the slots below a number
unfoldable pub least_below : Params → ℕ → (Key → Bool) → ℕ → Option Key
least_below p reading test zero = None
least_below p reading test (suc s) =
    sooner p (slot_visit p reading test s) (least_below p reading test s)

-- of the visits of a disk that are in the window and pass a test, the one before all others
unfoldable pub least_visit : Params → ℕ → ℕ → (Key → Bool) → Option Key
least_visit p reading disk test = least_below p reading (is_open p reading disk test) p.slots
