-- What a start that waits may rely on: which visits are tried for it, and by when it is put.
use Rattle.std.specs.Prelude.{◌≡◌, ◌≢◌, ℕ, ◌+◌, ◌*◌, ◌<◌, ◌≤◌, true, List, length, Some, ◌⊎◌}
use Rattle.tiger_base.specs.declared.tenancy.Tenancy.{Tenancy}
use Rattle.slot_plan.specs.declared.params.Params.{Params}
use Rattle.slot_plan.specs.Conditions.{IsPlan}
use Rattle.slot_plan.specs.Times.{due, disk_of, disk_count, time_of}
use Rattle.node_kit.specs.declared.course.Kept.{Kept}
use Rattle.node_kit.specs.Courses.{reading_of}
use Rattle.run_facts.specs.Commanded.{stop_ordered}
use Rattle.run_model.specs.Fronts.{AnyByRecursion}
use Rattle.run_model.specs.Served.{IsPut}
use Rattle.run_promises.specs.Kept.{after_tick, WasPut}
use Rattle.run_promises.specs.Waits.{Wait, IsWaiting, IsOver, IsInWindowAt, IsTakenAt, turn_of, IsATurn, IsAStep}
use Rattle.run_promises.specs.Windows.{IsWide}

-- at each tick of its cub each visit of its disk in the window finds it put or stopped, or is taken
abbrev pub EachVisitIsTried : Kept → Type 0
EachVisitIsTried k = (w : Wait) (beat slot visit : ℕ) → IsWaiting k w → w.from ≤ beat → beat ≤ w.last
    → slot < k.course.plan.params.slots → disk_of k.course.plan.params visit ≡ w.ask.disk.0
    → IsInWindowAt k w.cub beat slot visit → IsOver k w beat ⊎ IsTakenAt k w.cub beat slot visit

-- A visit of the disk comes by the cub: it is not past the window at the first of the beats, and in it at the last one
-- or before.
pub record ComesBy (k : Kept) (w : Wait) (slot visit : ℕ) : Type 0 where
  pub in_plan : slot < k.course.plan.params.slots
  pub on_disk : disk_of k.course.plan.params visit ≡ w.ask.disk.0
  pub ahead : reading_of k.course w.cub w.from + k.course.plan.params.window_b < due k.course.plan.params slot visit
  pub in_time : due k.course.plan.params slot visit ≤ reading_of k.course w.cub w.last + k.course.plan.params.window_a

-- a visit is taken at no tick of the cub in these beats
abbrev pub IsNeverTaken : Kept → Wait → ℕ → ℕ → Type 0
IsNeverTaken k w slot visit = (beat : ℕ) → w.from ≤ beat → beat ≤ w.last → ¬ IsTakenAt k w.cub beat slot visit

-- one visit that comes by and is never taken is enough
abbrev pub AFreeVisitIsEnough : Kept → Type 0
AFreeVisitIsEnough k = (w : Wait) (slot visit : ℕ) → IsWide k.course.plan.params → IsWaiting k w
    → ComesBy k w slot visit → IsNeverTaken k w slot visit → IsOver k w w.last

-- in these beats a slot came by the disk, in the window at a tick of the cub, and was taken there
pub record WasTaken (k : Kept) (w : Wait) (slot : ℕ) : Type 0 where
  pub visit : ℕ
  pub beat : ℕ
  pub low : w.from ≤ beat
  pub high : beat ≤ w.last
  pub on_disk : disk_of k.course.plan.params visit ≡ w.ask.disk.0
  pub window : IsInWindowAt k w.cub beat slot visit
  pub taken : IsTakenAt k w.cub beat slot visit

-- who waits a turn is put or stopped by its end, or each slot was taken as it came by
abbrev pub NobodyWaitsBesideAFreeSlot : Kept → Type 0
NobodyWaitsBesideAFreeSlot k = (w : Wait) → IsWide k.course.plan.params → IsWaiting k w
    → IsATurn k.course.plan.params w.from w.last
    → IsOver k w w.last ⊎ ((slot : ℕ) → slot < k.course.plan.params.slots → WasTaken k w slot)

-- ---- a house with room

-- whoever has a slot at the cub's ticks of these beats, besides the one who waits, is one of these instances
abbrev pub AreTheOthers : Kept → Wait → List ℕ → Type 0
AreTheOthers k w others = (beat slot : ℕ) (t : Tenancy) → w.from ≤ beat → beat ≤ w.last
    → (after_tick k w.cub beat).schedule.holder slot ≡ Some t → t.instance.0 ≢ w.ask.instance.0
    → AnyByRecursion (λ v. t.instance.0 ≡ v) others

-- any order that stops anybody is of a beat more than a block play time before one beat, or of a beat after another
abbrev pub NobodyIsStoppedIn : Kept → ℕ → ℕ → Type 0
NobodyIsStoppedIn k from last = (v beat : ℕ) → stop_ordered k.orders v beat ≡ true
    → (time_of k.course.plan.params beat + k.course.plan.params.play < time_of k.course.plan.params from)
    ⊎ (last < beat)

-- there are fewer others than slots, and nobody is stopped in these beats, or up to a block play time before them
pub record HasRoom (k : Kept) (w : Wait) : Type 0 where
  pub others : List ℕ
  pub all : AreTheOthers k w others
  pub few : length others < k.course.plan.params.slots
  pub stops : NobodyIsStoppedIn k w.from w.last

-- who waits a turn in a house with room is put or stopped by its end, however the others come and go
abbrev pub WhoFindsRoomIsPut : Kept → Type 0
WhoFindsRoomIsPut k = (w : Wait) → IsWide k.course.plan.params → IsWaiting k w
    → IsATurn k.course.plan.params w.from w.last → HasRoom k w → IsOver k w w.last

-- ---- an empty ring

-- a visit of a disk is due at a time or after it, and less than one part of a turn after it, of as many parts as
-- there are slots
pub record IsDueSoon (p : Params) (disk time : ℕ) : Type 0 where
  pub slot : ℕ
  pub visit : ℕ
  pub in_plan : slot < p.slots
  pub on_disk : disk_of p visit ≡ disk
  pub low : time ≤ due p slot visit
  pub high : p.slots * due p slot visit < p.slots * time + turn_of p

-- from a disk's first visit on some slot comes by it in each such part of a turn
abbrev pub SomeSlotComesSoon : Type 0
SomeSlotComesSoon = (p : Params) (disk time : ℕ) → IsPlan p → disk < disk_count p → disk * p.play ≤ time
    → IsDueSoon p disk time

-- at no tick of the cub in these beats any visit is taken
abbrev pub IsEmpty : Kept → Wait → Type 0
IsEmpty k w = (slot visit : ℕ) → IsNeverTaken k w slot visit

-- on an empty ring a start is put or stopped as soon as the next slot comes by, if the disk had its first visit
abbrev pub AnEmptyRingPutsSoon : Kept → Type 0
AnEmptyRingPutsSoon k = (w : Wait) → IsWide k.course.plan.params → IsWaiting k w
    → w.ask.disk.0 * k.course.plan.params.play ≤ time_of k.course.plan.params w.from + k.course.plan.params.window_b
    → IsAStep k.course.plan.params w.from w.last → IsEmpty k w → IsOver k w w.last

-- ---- the first block

-- a tenancy of an instance was put, and its first visit is due by a time
pub record HasPlaceBy (k : Kept) (v time : ℕ) (t : Tenancy) : Type 0 where
  pub put : IsPut k.journals t
  pub instance : t.instance.0 ≡ v
  pub soon : due k.course.plan.params t.slot.0 t.first ≤ time

-- who is put by the end of a tick has its first block due soon: within the skew and the window after the tick's beat
abbrev pub TheFirstBlockIsDueSoon : Kept → Type 0
TheFirstBlockIsDueSoon k = (cub beat v : ℕ) → WasPut (after_tick k cub beat) v
    → (t : Tenancy) × HasPlaceBy k v
    (time_of k.course.plan.params beat + k.course.plan.params.skew + k.course.plan.params.window_a) t
