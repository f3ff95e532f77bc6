-- What the orders say of the entries: a tenancy is rightly put where a start was ordered, and a start that waits is not
-- passed over.
use Rattle.std.specs.Prelude.{◌≡◌, ℕ, ◌+◌, ◌%◌, ◌<◌, ◌≤◌, Bool, true, false, ◌&&◌, ◌||◌, ◌==◌, nat_lt, nat_le, List, length, filter, Some, IsTrue, ◌⊎◌}
use Rattle.tiger_base.specs.declared.tenancy.Ask.{Ask}
use Rattle.tiger_base.specs.declared.tenancy.Rec.{Rec}
use Rattle.tiger_base.specs.declared.tenancy.Tenancy.{Tenancy}
use Rattle.tiger_base.specs.declared.message.Note.TheVariants as note
use Rattle.slot_plan.specs.declared.params.Params.{Params}
use Rattle.slot_plan.specs.Times.{cub_of, disk_of, in_window, time_of}
use Rattle.node_kit.specs.declared.journal.What.{What}
use Rattle.node_kit.specs.declared.journal.What.TheVariants as what
use Rattle.node_kit.specs.declared.course.Order.{Order}
use Rattle.node_kit.specs.declared.course.OrderKind.TheVariants as kind
use Rattle.run_facts.specs.Order.{Noted, beat_of}
use Rattle.run_model.specs.Fronts.{AnyByRecursion}
use Rattle.run_model.specs.Schedule.{Stop, IsFreeFrom, is_stopped}
use Rattle.run_model.specs.Moments.{Moment, moment_at, view_of, is_put_of, HoldsAtEach}

-- a start of this was ordered
abbrev pub IsOrdered : List Order → Ask → Type 0
IsOrdered orders ask = AnyByRecursion (λ o. o.what ≡ kind.Begin ask) orders

-- a tenancy is what was asked: the instance, the file, a visit for each block, and the first one on the file's disk
pub record IsTenancyFor (p : Params) (ask : Ask) (t : Tenancy) : Type 0 where
  pub instance : ask.instance ≡ t.instance
  pub file : ask.file ≡ t.file
  pub count : t.first + ask.count ≡ t.last + 1
  pub disk : ask.disk.0 ≡ disk_of p t.first

-- a cub may put at a visit: it is the visit's cub, or the next one and believes that cub dead
abbrev pub MayPut : Params → Moment → ℕ → ℕ → Type 0
MayPut p m c visit =
    (cub_of p visit ≡ c)
    ⊎ ((cub_of p (visit + 1) ≡ c) × (m.believed c (cub_of p visit) ≡ true))

-- a cub puts a tenancy at a moment and a reading, rightly: it was ordered, its first visit is in the window, the cub
-- may do so, and no entry of the whole log puts the instance besides
pub record IsRightlyPut (p : Params) (orders : List Order) (log : List Noted) (m : Moment) (c reading : ℕ) (t : Tenancy) : Type 0 where
  pub ask : Ask
  pub ordered : IsOrdered orders ask
  pub asked : IsTenancyFor p ask t
  pub slot : t.slot.0 < p.slots
  pub window : IsTrue (in_window p reading t.slot.0 t.first)
  pub cub : MayPut p m c t.first
  pub once : length (filter (λ x. is_put_of t.instance.0 x.entry.what) log) ≤ 1

-- a Put finds its slot free from its first visit on, and is rightly put
pub record PutIsFair (p : Params) (orders : List Order) (log : List Noted) (m : Moment) (c reading : ℕ) (t : Tenancy) : Type 0 where
  pub free : IsFreeFrom m.schedule t.slot.0 t.first
  pub rightly : IsRightlyPut p orders log m c reading t

abbrev pub EntryIsFair : Params → List Order → List Noted → Moment → ℕ → ℕ → What → Type 0
EntryIsFair p orders log m c reading (what.Put t) = PutIsFair p orders log m c reading t
EntryIsFair p orders log m c reading other = Unit {0}

-- and so does each Put of a log
abbrev pub PutsAreFair : Params → List Order → List Noted → Type 0
PutsAreFair p orders log = HoldsAtEach (λ m x. EntryIsFair p orders log m x.node x.entry.stamp.reading x.entry.what) log

-- the moment at the end of the tick of a node in a beat: that of all entries of lower beats, and in the beat of the
-- nodes up to this one
abbrev pub is_up_to : ℕ → ℕ → Noted → Bool
is_up_to beat n x = nat_lt (beat_of x) beat || ((beat_of x == beat) && nat_le x.node n)

abbrev pub end_of_tick : ℕ → ℕ → List Noted → Moment
end_of_tick beat n log = moment_at (filter (is_up_to beat n) log)

-- an entry says that a start of an instance was got, the redundant one or the plain one
abbrev pub IsStartOf : ℕ → Bool → What → Type 0
IsStartOf v redundant (what.Got link (note.Start how ask)) = (ask.instance.0 ≡ v) × (how ≡ redundant)
IsStartOf v redundant other = ⊥

-- a cub got the start and may put it: the plain one on the cub of the disk, if it has never died, since a cub that came
-- back puts nobody; or on the next one the redundant one, if it believes the cub of the disk dead
abbrev pub HasStart : Params → Moment → ℕ → Ask → Type 0
HasStart p m c ask =
    ((ask.disk.0 % p.cubs ≡ c) × ((m.dead c ≡ false)
    × AnyByRecursion (λ e. IsStartOf ask.instance.0 false e.what) (m.journal c)))
    ⊎ (((ask.disk.0 + 1) % p.cubs ≡ c) × ((m.believed c (ask.disk.0 % p.cubs) ≡ true)
    × AnyByRecursion (λ e. IsStartOf ask.instance.0 true e.what) (m.journal c)))

-- a stop is of an instance, and a block play time before a beat at most
abbrev pub IsRecentStop : Params → ℕ → ℕ → Stop → Type 0
IsRecentStop p beat v stop = (stop.instance ≡ v) × (time_of p beat ≤ time_of p stop.beat + p.play)

-- a record is of a visit of a slot, and its instance has such a stop
abbrev pub IsOfRecentlyStopped : Params → Moment → ℕ → ℕ → ℕ → Rec → Type 0
IsOfRecentlyStopped p m beat slot visit r =
    (r.tenancy.slot.0 ≡ slot) × (r.visit ≡ visit)
    × AnyByRecursion (IsRecentStop p beat r.tenancy.instance.0) m.schedule.stops

-- in a cub's tick of a beat: the schedule's tenancy has the visit, or the cub's view has a record there whose instance
-- was stopped a block play time before this beat at most, however long before it the last entry was written
abbrev pub IsTaken : Params → Moment → ℕ → ℕ → ℕ → ℕ → Type 0
IsTaken p m c beat slot visit =
    ((t : Tenancy) × (m.schedule.holder slot ≡ Some t) × (t.first ≤ visit) × (visit ≤ t.last))
    ⊎ AnyByRecursion (IsOfRecentlyStopped p m beat slot visit) (view_of m c)

-- at the end of a cub's tick of a beat, at a reading: if an instance has a start there and was neither put nor stopped,
-- each visit of its disk in the window is taken
pub record IsNotPassedOver (p : Params) (orders : List Order) (m : Moment) (c beat reading : ℕ) : Type 0 where
  pub taken : (ask : Ask) (slot visit : ℕ) → IsOrdered orders ask → HasStart p m c ask
      → m.put ask.instance.0 ≡ false → is_stopped ask.instance.0 m.schedule.stops ≡ false
      → slot < p.slots → disk_of p visit ≡ ask.disk.0 → IsTrue (in_window p reading slot visit)
      → IsTaken p m c beat slot visit
