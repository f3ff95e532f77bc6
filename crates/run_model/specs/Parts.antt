-- What the schedule says of the cubs' records: each is part of it, and each came to its cub by the cubs before it.
use Rattle.std.specs.Prelude.{◌≡◌, ℕ, ◌+◌, ◌%◌, ◌<◌, ◌≤◌, Bool, false, ◌&&◌, ◌||◌, ◌==◌, nat_lt, nat_le, List, Option, Some, None, IsTrue, ◌⊎◌}
use Rattle.std.specs.List.{AllByRecursion, list_any}
use Rattle.tiger_base.specs.declared.tenancy.Tenancy.{Tenancy}
use Rattle.tiger_base.specs.declared.tenancy.Kind.{Kind}
use Rattle.tiger_base.specs.declared.tenancy.Kind.TheVariants.{Own, Backup}
use Rattle.tiger_base.specs.declared.tenancy.Rec.{Rec}
use Rattle.tiger_base.specs.declared.tenancy.State.{State}
use Rattle.tiger_base.specs.declared.message.Note.TheVariants as note
use Rattle.slot_plan.specs.declared.params.Params.{Params}
use Rattle.slot_plan.specs.Times.{due, cub_of, time_of}
use Rattle.node_kit.specs.declared.journal.What.{What}
use Rattle.node_kit.specs.declared.journal.What.TheVariants as what
use Rattle.node_kit.specs.Links.{links_of, ends_of}
use Rattle.run_facts.specs.Order.{Noted}
use Rattle.run_model.specs.Fronts.{AnyByRecursion}
use Rattle.run_model.specs.Schedule.{Schedule}
use Rattle.run_model.specs.Moments.{Moment, view_of, moment_time, AlwaysHolds, HoldsAtEach}

-- whether an instance was stopped one block play time before the moment at most
abbrev pub was_just_stopped : Params → Moment → ℕ → Bool
was_just_stopped p m v =
    list_any (λ stop. (stop.instance == v) && nat_le (moment_time p m) (time_of p stop.beat + p.play)) m.schedule.stops

-- the schedule has the tenancy, and the visit is one of its visits
pub record HasVisit (s : Schedule) (t : Tenancy) (visit : ℕ) : Type 0 where
  pub holder : s.holder t.slot.0 ≡ Some t
  pub first : t.first ≤ visit
  pub last : visit ≤ t.last

-- a record of a tenancy and a visit is part of the schedule: the schedule has them, or the instance was just stopped
abbrev pub IsPart : Params → Moment → Tenancy → ℕ → Type 0
IsPart p m t visit = HasVisit m.schedule t visit ⊎ IsTrue (was_just_stopped p m t.instance.0)

-- every record of every cub's view is part of the schedule
abbrev pub ViewsArePart : Params → Moment → Type 0
ViewsArePart p m = (c : ℕ) → c < p.cubs → AllByRecursion (λ r. IsPart p m r.tenancy r.visit) (view_of m c)

-- and so at every moment of a log
abbrev pub ViewsAreAlwaysPart : Params → List Noted → Type 0
ViewsAreAlwaysPart p log = AlwaysHolds (ViewsArePart p) log

-- whether a link leads to its node from one of the two cubs before a cub
abbrev pub is_from_before : Params → ℕ → Option (ℕ × ℕ) → Bool
is_from_before p c None = false
is_from_before p c (Some ends) =
    nat_lt ends.0 p.cubs && (((ends.0 + 1) % p.cubs == c) || ((ends.0 + 2) % p.cubs == c))

-- the visit is a given one, or the one before it
abbrev pub IsAtOrBefore : ℕ → ℕ → Type 0
IsAtOrBefore visit given = (visit ≡ given) ⊎ (visit + 1 ≡ given)

-- an entry of a cub brings it a tenancy at a visit: a viewer state that came from one of the two cubs before, or a
-- Put of its own, at this visit or the one before it
abbrev pub Brings : Params → ℕ → Tenancy → ℕ → What → Type 0
Brings p c t visit (what.Got link (note.ViewerState state)) =
    (state.tenancy ≡ t) × IsAtOrBefore state.visit visit × IsTrue (is_from_before p c (ends_of (links_of p) link.0))
Brings p c t visit (what.Put put) = (put ≡ t) × IsAtOrBefore t.first visit
Brings p c t visit other = ⊥

-- the visit is the cub's own, or for a backup record that of the cub before it
abbrev pub IsForCub : Params → ℕ → Kind → ℕ → Type 0
IsForCub p c Own visit = cub_of p visit ≡ c
IsForCub p c Backup visit = cub_of p (visit + 1) ≡ c

-- a cub takes a record at a reading as it may: the visit is for it, its journal says how it came, and it is not too soon
pub record IsLocalRecord (p : Params) (m : Moment) (c reading : ℕ) (r : Rec) : Type 0 where
  pub for_cub : IsForCub p c r.kind r.visit
  pub came : AnyByRecursion (λ e. Brings p c r.tenancy r.visit e.what) (m.journal c)
  pub soon : due p r.tenancy.slot.0 r.visit ≤ reading + p.max_lead + p.play + p.skew

-- the cub's view has an own record of the tenancy at a visit or the one before it
abbrev pub IsOwnRecordFor : State → Rec → Type 0
IsOwnRecordFor state r = (r.tenancy ≡ state.tenancy) × (r.kind ≡ Own) × IsAtOrBefore r.visit state.visit

-- what a cub takes and which viewer states it sends is local: it follows from what the cub has
abbrev pub IsLocalEntry : Params → Moment → ℕ → ℕ → What → Type 0
IsLocalEntry p m c reading (what.Took r) = IsLocalRecord p m c reading r
IsLocalEntry p m c reading (what.Sent link (note.ViewerState state)) = AnyByRecursion (IsOwnRecordFor state) (view_of m c)
IsLocalEntry p m c reading other = Unit {0}

abbrev pub IsLocal : Params → Moment → Noted → Type 0
IsLocal p m x = x.node < p.cubs → IsLocalEntry p m x.node x.entry.stamp.reading x.entry.what

-- and so is each entry of the cubs in a log
abbrev pub EntriesAreLocal : Params → List Noted → Type 0
EntriesAreLocal p log = HoldsAtEach (IsLocal p) log
