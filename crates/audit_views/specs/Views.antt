-- Views as they are judged entry by entry, and what a walk keeps for that.
use Rattle.std.specs.Prelude.{◌≡◌, ℕ, ◌+◌, ◌<◌, ◌≤◌, Bool, false, ◌&&◌, ◌==◌, nat_le, nat_lt, List, Option, Some, None, map, filter, length, slice_index_or, is_some, IsTrue}
use Rattle.std.specs.List.{AllByRecursion, list_all, list_any}
use Rattle.std.specs.List.Sorted.{IsNonDecreasingBy}
use Rattle.tiger_base.specs.declared.tenancy.Rec.{Rec}
use Rattle.tiger_base.specs.declared.tenancy.Tenancy.{Tenancy}
use Rattle.slot_plan.specs.declared.params.Params.{Params}
use Rattle.slot_plan.specs.Times.{time_of}
use Rattle.node_kit.specs.declared.journal.What.{What}
use Rattle.node_kit.specs.declared.journal.What.TheVariants as what
use Rattle.run_facts.specs.Order.{Noted}
use Rattle.run_model.specs.Fronts.{AnyByRecursion}
use Rattle.run_model.specs.Schedule.{Schedule, Stop}
use Rattle.run_model.specs.Views.{same_record, same_tenancy}
use Rattle.run_model.specs.Moments.{Moment, next_moment}
use Rattle.run_model.specs.Parts.{IsPart}
use Rattle.audit_frame.specs.Tables.{MarkNumbers, Tenancies, mark_under, seat_under, unless_by}
use Rattle.audit_frame.specs.Records.{tenancy_held}
use Rattle.audit_frame.specs.declared.records.By.TheVariants as way
use Rattle.audit_frame.specs.declared.records.Held.{Held}
use Rattle.audit_views.specs.Standing.{has_record}
use Rattle.audit_views.specs.declared.views.Stopped.{Stopped}

-- ---- views

-- whether a node is a cub, and its view has a record
abbrev pub is_in_view : Params → Moment → ℕ → Rec → Bool
is_in_view p m c r = nat_lt c p.cubs && list_any (same_record r) (m.records c)

-- each record of an instance in a view is part of the schedule
abbrev pub IsInstancePart : Params → Moment → ℕ → Type 0
IsInstancePart p m v =
    (c : ℕ) (r : Rec) → IsTrue (is_in_view p m c r) → r.tenancy.instance.0 ≡ v → IsPart p m r.tenancy r.visit

-- ---- what an entry may take out of the schedule

-- an entry touches an instance if that had the slot into which another one is put
abbrev pub Touches : Schedule → What → ℕ → Type 0
Touches s (what.Put t) v = (u : Tenancy) × (s.holder t.slot.0 ≡ Some u) × (u.instance.0 ≡ v)
Touches s other v = ⊥

-- a record is that which an entry takes
abbrev pub IsRecordTaken : What → Rec → Type 0
IsRecordTaken (what.Took q) r = r ≡ q
IsRecordTaken other r = ⊥

-- the record that an entry of a node takes is part, if the node's view has it
abbrev pub IsTakenPart : Params → Moment → ℕ → What → Type 0
IsTakenPart p m c w = (r : Rec) → IsRecordTaken w r → IsTrue (is_in_view p m c r) → IsPart p m r.tenancy r.visit

-- whether records of an instance that is stopped in one beat may stand in another
abbrev pub is_in_time : Params → ℕ → ℕ → Bool
is_in_time p beat stop = nat_le (time_of p beat) (time_of p stop + p.play)

-- a stop runs out between two beats
abbrev pub RunsOut : Params → ℕ → ℕ → Stop → Type 0
RunsOut p before beat stop = IsTrue (is_in_time p before stop.beat) × (is_in_time p beat stop.beat ≡ false)

-- the records of each instance are part whose stop runs out between a beat and that of the moment
abbrev pub LateArePart : Params → Moment → ℕ → Type 0
LateArePart p m before =
    AllByRecursion (λ stop. RunsOut p before m.beat stop → IsInstancePart p m stop.instance) m.schedule.stops

-- what an entry takes and what it touches is part after it, and so is what runs out with it
pub record KeepsPart (p : Params) (m : Moment) (x : Noted) : Type 0 where
  pub taken : IsTakenPart p (next_moment m x) x.node x.entry.what
  pub touched : (v : ℕ) → Touches m.schedule x.entry.what v → IsInstancePart p (next_moment m x) v
  pub late : LateArePart p (next_moment m x) m.beat

-- ---- what a walk keeps

-- a stop, and all stops
abbrev pub told_stop : Stopped → Stop
told_stop s = record { instance = s.instance.0; beat = s.beat }

abbrev pub stops_of : List Stopped → List Stop
stops_of kept = map told_stop kept

-- of some stops those before a place have run out in a beat, and no others
pub record RunsOutUpTo (p : Params) (beat : ℕ) (kept : List Stopped) (place : ℕ) : Type 0 where
  pub out : (j : ℕ) (d : Stopped) → j < place → is_in_time p beat (slice_index_or kept j d).beat ≡ false
  pub in_time : (j : ℕ) (d : Stopped) → place ≤ j → j < length kept → IsTrue (is_in_time p beat (slice_index_or kept j d).beat)

-- of an instance's stops the latest is of this beat; there is none exactly if the instance was not stopped
abbrev pub IsLatestStop : ℕ → List Stop → Option ℕ → Type 0
IsLatestStop v stops None = AllByRecursion (λ stop. stop.instance ≡ v → ⊥) stops
IsLatestStop v stops (Some beat) =
    AllByRecursion (λ stop. stop.instance ≡ v → stop.beat ≤ beat) stops
    × AnyByRecursion (λ stop. (stop.instance ≡ v) × (stop.beat ≡ beat)) stops

-- whether an instance has a mark
abbrev pub is_marked : MarkNumbers → ℕ → Bool
is_marked marks v = is_some (mark_under v marks)

-- tables tell the schedule in a beat: the tenancy of each slot, all stops, and of each instance the latest
pub record TellsSchedule (seats : Tenancies) (marks : MarkNumbers) (kept : List Stopped) (now : ℕ) (s : Schedule) : Type 0 where
  pub holder : (slot : ℕ) → s.holder slot ≡ unless_by (is_marked marks) (seat_under slot seats)
  pub stops : s.stops ≡ stops_of kept
  pub rising : IsNonDecreasingBy (λ stop. stop.beat) kept
  pub early : AllByRecursion (λ stop. stop.beat ≤ now) kept
  pub latest : (v : ℕ) → IsLatestStop v s.stops (mark_under v marks)

-- a table tells what stands in the views
abbrev pub TellsRecords : Params → List Held → Moment → Type 0
TellsRecords p held m = (c : ℕ) (r : Rec) → has_record c r held ≡ is_in_view p m c r

-- tables tell all of a moment by which views are judged
pub record TellsViews (p : Params) (seats : Tenancies) (marks : MarkNumbers) (kept : List Stopped)
    (held : List Held) (now : ℕ) (m : Moment) : Type 0 where
  pub beat : now ≡ m.beat
  pub schedule : TellsSchedule seats marks kept now m.schedule
  pub records : TellsRecords p held m

-- ---- how instances are judged by what is kept

-- whether a record is of a tenancy, and whether it is of a visit of the tenancy that has its slot
abbrev pub is_of : Tenancy → Held → Bool
is_of t h = same_tenancy t (tenancy_held way.Instance h)

abbrev pub is_held_visit : Option Tenancy → Held → Bool
is_held_visit None h = false
is_held_visit (Some t) h = is_of t h && (nat_le h.first h.visit && nat_le h.visit h.last)

abbrev pub is_seated : Tenancies → Held → Bool
is_seated seats h = is_held_visit (seat_under h.beside seats) h

-- the records of an instance, and whether all of them are so
abbrev pub of_instance : ℕ → List Held → List Held
of_instance v held = filter (λ h. h.under == v) held

abbrev pub are_seated : Tenancies → ℕ → List Held → Bool
are_seated seats v held = list_all (is_seated seats) (of_instance v held)
