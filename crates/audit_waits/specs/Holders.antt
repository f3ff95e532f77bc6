-- What a walk keeps of the schedule: who holds each slot, and until when a stop excuses.
use Rattle.std.specs.Prelude.{◌≡◌, ℕ, ◌+◌, Bool, false, ◌&&◌, ◌==◌, nat_le, nat_lt, Option, Some, None, is_some, if◌then◌else◌}
use Rattle.std.specs.List.{list_any}
use Rattle.tiger_base.specs.declared.tenancy.Tenancy.{Tenancy}
use Rattle.slot_plan.specs.declared.params.Params.{Params}
use Rattle.slot_plan.specs.Times.{time_of}
use Rattle.run_model.specs.Schedule.{Schedule, Stop, is_stopped}
use Rattle.audit_frame.specs.Tables.{MarkNumbers, mark_under, seat_under, unless_by}
use Rattle.audit_waits.specs.declared.holders.Holders.{Holders}

-- whether an instance has a mark
abbrev pub has_mark : MarkNumbers → ℕ → Bool
has_mark marks v = is_some (mark_under v marks)

-- whether a tenancy, if there is one, has a visit
abbrev pub has_its_visit : Option Tenancy → ℕ → Bool
has_its_visit None visit = false
has_its_visit (Some t) visit = nat_le t.first visit && nat_le visit t.last

-- whether one beat is a block play time behind another at most
abbrev pub is_soon_behind : Params → ℕ → ℕ → Bool
is_soon_behind p beat stop = nat_le (time_of p beat) (time_of p stop + p.play)

-- whether a stop is of an instance, and a block play time before a beat at most
abbrev pub is_recent_stop : Params → ℕ → ℕ → Stop → Bool
is_recent_stop p beat v stop = (stop.instance == v) && is_soon_behind p beat stop.beat

-- the same of the latest stop, if there is one
abbrev pub is_latest_recent : Params → ℕ → Option ℕ → Bool
is_latest_recent p beat None = false
is_latest_recent p beat (Some stop) = is_soon_behind p beat stop

-- the later of two beats, if there are two
abbrev pub later_stop : Option ℕ → ℕ → ℕ
later_stop None beat = beat
later_stop (Some other) beat = if nat_lt beat other then other else beat

-- the tenancy that has a slot, by two tables
abbrev pub holder_in : Holders → ℕ → Option Tenancy
holder_in s slot = unless_by (has_mark s.stops) (seat_under slot s.seats)

-- tables tell who has each slot, who was stopped, and whose stop is recent in which beats
pub record TellsHolders (p : Params) (s : Holders) (schedule : Schedule) : Type 0 where
  pub holder : (slot : ℕ) → schedule.holder slot ≡ holder_in s slot
  pub stopped : (v : ℕ) → is_stopped v schedule.stops ≡ has_mark s.stops v
  pub recent : (v beat : ℕ)
      → list_any (is_recent_stop p beat v) schedule.stops ≡ is_latest_recent p beat (mark_under v s.stops)
