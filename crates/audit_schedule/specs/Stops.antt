-- What a walk keeps of the stops that it has passed: of each instance the earliest.
use Rattle.std.specs.Prelude.{◌≡◌, ℕ, ◌≤◌, nat_lt, List, Option, Some, None, if◌then◌else◌}
use Rattle.std.specs.List.{AllByRecursion}
use Rattle.run_model.specs.Fronts.{AnyByRecursion}
use Rattle.run_model.specs.Schedule.{Stop}
use Rattle.run_model.specs.Moments.{Moment}
use Rattle.audit_frame.specs.Tables.{MarkNumbers, mark_under}

-- the earlier of two beats, if there are two
abbrev pub earlier : Option ℕ → ℕ → ℕ
earlier None beat = beat
earlier (Some other) beat = if nat_lt beat other then beat else other

-- the beat is that of the earliest stop of an instance; there is none exactly if the instance was not stopped
abbrev pub IsEarliest : ℕ → List Stop → Option ℕ → Type 0
IsEarliest v stops None = AllByRecursion (λ stop. stop.instance ≡ v → ⊥) stops
IsEarliest v stops (Some beat) =
    AllByRecursion (λ stop. stop.instance ≡ v → beat ≤ stop.beat) stops
    × AnyByRecursion (λ stop. (stop.instance ≡ v) × (stop.beat ≡ beat)) stops

-- the marks are the beats of the earliest stops
abbrev pub TellsStops : MarkNumbers → Moment → Type 0
TellsStops marks m = (v : ℕ) → IsEarliest v m.schedule.stops (mark_under v marks)
