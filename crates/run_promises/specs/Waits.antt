-- One who waits for a slot: a start that was ordered, and the cub that may put it, over some beats.
use Rattle.std.specs.Prelude.{◌≡◌, ℕ, ◌+◌, ◌*◌, ◌%◌, ◌<◌, ◌≤◌, true, IsTrue, Some, ◌⊎◌}
use Rattle.tiger_base.specs.declared.tenancy.Ask.{Ask}
use Rattle.slot_plan.specs.declared.params.Params.{Params}
use Rattle.slot_plan.specs.Times.{disk_count, in_window, time_of}
use Rattle.node_kit.specs.declared.course.Kept.{Kept}
use Rattle.node_kit.specs.Courses.{reading_of}
use Rattle.node_kit.specs.Life.{lifetime_of}
use Rattle.run_model.specs.Moments.{Moment}
use Rattle.run_model.specs.Orders.{IsTaken}
use Rattle.run_promises.specs.Kept.{after_tick, WasPut, WasStopped, IsOrderedIn}

-- what is asked, the beat in which it was ordered, a cub, and the first and the last of some beats of this cub
pub record Wait : Type 0 where
  pub ask : Ask
  pub ordered : ℕ
  pub cub : ℕ
  pub from : ℕ
  pub last : ℕ

-- a cub may put a start at a moment: it is the cub of the disk, or the next one and believes that one dead
abbrev pub IsItsCub : Params → Moment → ℕ → Ask → Type 0
IsItsCub p m cub ask =
    (ask.disk.0 % p.cubs ≡ cub)
    ⊎ (((ask.disk.0 + 1) % p.cubs ≡ cub) × (m.believed cub (ask.disk.0 % p.cubs) ≡ true))

-- a cub does not die by the end of a beat
abbrev pub LivesTo : Kept → ℕ → ℕ → Type 0
LivesTo k cub beat = (death : ℕ) → (lifetime_of k.course cub).death ≡ Some death → beat < death

-- A start waits: it was ordered, the cub may put it at the first of these beats, which is the greatest delay after the
-- order or later, the run has not ended in the last of them, and the cub has not died by then. A cub that has died forgets
-- its starts, and once it is back it discards them.
pub record IsWaiting (k : Kept) (w : Wait) : Type 0 where
  pub asked : IsOrderedIn k.orders w.ask w.ordered
  pub disk : w.ask.disk.0 < disk_count k.course.plan.params
  pub small : w.cub < k.course.plan.params.cubs
  pub its_cub : IsItsCub k.course.plan.params (after_tick k w.cub w.from) w.cub w.ask
  pub came : w.ordered + k.course.plan.params.delay ≤ w.from
  pub rises : w.from ≤ w.last
  pub ends : w.last < k.course.beats
  pub lives : LivesTo k w.cub w.last

-- by the end of the cub's tick of a beat its instance was put, or stopped
abbrev pub IsOver : Kept → Wait → ℕ → Type 0
IsOver k w beat =
    WasPut (after_tick k w.cub beat) w.ask.instance.0 ⊎ WasStopped (after_tick k w.cub beat) w.ask.instance.0

-- at the cub's tick of a beat a visit of a slot is in the window; and it is taken
abbrev pub IsInWindowAt : Kept → ℕ → ℕ → ℕ → ℕ → Type 0
IsInWindowAt k cub beat slot visit = IsTrue (in_window k.course.plan.params (reading_of k.course cub beat) slot visit)

abbrev pub IsTakenAt : Kept → ℕ → ℕ → ℕ → ℕ → Type 0
IsTakenAt k cub beat slot visit = IsTaken k.course.plan.params (after_tick k cub beat) cub beat slot visit

-- ---- how long it may be until a slot comes by

-- the time in which each slot passes all disks
abbrev pub turn_of : Params → ℕ
turn_of p = disk_count p * p.play

-- From one beat to another each slot comes by each disk: a turn is over, less the length of the window; and two turns
-- since the run began, in which each slot came by for the first time.
abbrev pub IsATurn : Params → ℕ → ℕ → Type 0
IsATurn p from last =
    (time_of p from + turn_of p + p.window_b ≤ time_of p last + p.window_a)
    × (2 * turn_of p ≤ time_of p last + p.window_a)

-- From one beat to another some slot comes by each disk: one part of a turn is over, of as many parts as there are
-- slots, less the length of the window. All is multiplied by the number of slots.
abbrev pub IsAStep : Params → ℕ → ℕ → Type 0
IsAStep p from last = p.slots * (time_of p from + p.window_b) + turn_of p ≤ p.slots * (time_of p last + p.window_a)
