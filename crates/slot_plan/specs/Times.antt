-- When the visits of the slots are due, on which disk and cub, and which of them stand in the
-- window.
use Rattle.std.specs.Prelude.{ℕ, ◌+◌, ◌-◌, ◌*◌, ◌/◌, ◌%◌, ◌≤◌, Bool, ◌&&◌, IsTrue, nat_lt, nat_le, Option, Some, None, if◌then◌else◌}
use Rattle.slot_plan.specs.declared.params.Params.{Params}
use Rattle.slot_plan.specs.Conditions.{longest_way}

-- the true time at which a beat begins
unfoldable pub time_of : Params → ℕ → ℕ
time_of p beat = beat * p.beat

-- the number of all disks
abbrev pub disk_count : Params → ℕ
disk_count p = p.cubs * p.disks

-- when a slot's first visit is due
unfoldable pub first_due : Params → ℕ → ℕ
first_due p slot = slot * disk_count p * p.play / p.slots

-- when a visit of a slot is due
unfoldable pub due : Params → ℕ → ℕ → ℕ
due p slot visit = first_due p slot + visit * p.play

-- the cub and the disk of a visit
unfoldable pub cub_of : Params → ℕ → ℕ
cub_of p visit = visit % p.cubs

unfoldable pub disk_of : Params → ℕ → ℕ
disk_of p visit = visit % disk_count p

-- whether a visit is in the window at a reading
unfoldable pub in_window : Params → ℕ → ℕ → ℕ → Bool
in_window p reading slot visit =
    nat_le (due p slot visit) (reading + p.window_a)
    && nat_lt (reading + p.window_b) (due p slot visit)

-- the last visit of a slot that is due at a time or before it, if there is one
unfoldable pub visit_by : Params → ℕ → ℕ → Option ℕ
visit_by p slot time =
    if nat_lt time (due p slot 0) then None else Some ((time - due p slot 0) / p.play)

-- of the visits of a slot that are due at a time or before it, it is the last
pub record IsLatest (p : Params) (slot time visit : ℕ) : Type 0 where
  pub begun : due p slot visit ≤ time
  pub latest : (n : ℕ) → due p slot n ≤ time → n ≤ visit

-- a visit of a slot is in its window at one true time, and the next visit at another: the second
-- time is at least a beat later
pub record WindowsApart (p : Params) : Type 0 where
  pub apart : (slot visit time later reading later_reading : ℕ)
      → (time ≤ reading) × (reading ≤ time + p.skew)
      → (later ≤ later_reading) × (later_reading ≤ later + p.skew)
      → IsTrue (in_window p reading slot visit)
      → IsTrue (in_window p later_reading slot (visit + 1))
      → time + p.beat ≤ later

-- how long a death may go unnoticed: visits that are due so long after it, or later, are taken over
-- in time
unfoldable pub takeover : Params → ℕ
takeover p = 2 * longest_way p + 3 * p.skew + p.deadman + p.read_lead + 2 * p.beat + 1
