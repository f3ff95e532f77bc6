-- When a viewer that is ordered to stop is gone: from when on it has no slot, and no cub a record of it.
use Rattle.std.specs.Prelude.{◌≡◌, ◌≢◌, ℕ, ◌+◌, ◌<◌, true, false, List, ◌++◌, Some}
use Rattle.std.specs.List.{AllByRecursion}
use Rattle.tiger_base.specs.declared.tenancy.Tenancy.{Tenancy}
use Rattle.slot_plan.specs.declared.params.Params.{Params}
use Rattle.slot_plan.specs.Times.{time_of}
use Rattle.node_kit.specs.declared.course.Kept.{Kept}
use Rattle.node_kit.specs.Courses.{reading_of}
use Rattle.node_kit.specs.Links.{links_of, controller_of}
use Rattle.run_facts.specs.Commanded.{stop_ordered, is_over, place_known}
use Rattle.run_facts.specs.Order.{Noted}
use Rattle.run_model.specs.Moments.{Moment, moment_at, moment_time, view_of}
use Rattle.run_model.specs.Runs.{order_in}
use Rattle.run_model.specs.Served.{journal_at}

-- at a moment no slot is an instance's
abbrev pub HasNoSlot : Moment → ℕ → Type 0
HasNoSlot m v = (slot : ℕ) (t : Tenancy) → m.schedule.holder slot ≡ Some t → t.instance.0 ≢ v

-- and no cub's view has a record of it
abbrev pub HasNoRecord : Params → Moment → ℕ → Type 0
HasNoRecord p m v = (cub : ℕ) → cub < p.cubs → AllByRecursion (λ r. r.tenancy.instance.0 ≢ v) (view_of m cub)

-- at each moment of a run later than a time an instance is this
abbrev pub IsSoAfter : Kept → ℕ → (Moment → Type 0) → Type 0
IsSoAfter k time P = (front back : List Noted) → front ++ back ≡ order_in k
    → time < moment_time k.course.plan.params (moment_at front) → P (moment_at front)

-- an instance has no slot after a beat, and is in no view later than a block play time after it
pub record IsGoneFrom (k : Kept) (v beat : ℕ) : Type 0 where
  pub slots : IsSoAfter k (time_of k.course.plan.params beat) (λ m. HasNoSlot m v)
  pub views : IsSoAfter k (time_of k.course.plan.params beat + k.course.plan.params.play)
      (λ m. HasNoRecord k.course.plan.params m v)

-- in a beat the controller does not know by its clock that an instance's tenancy is over
abbrev pub IsNotOver : Kept → ℕ → ℕ → Type 0
IsNotOver k v beat =
    let controller : ℕ = controller_of (links_of k.course.plan.params) in
    is_over k.course.plan.params (reading_of k.course controller beat)
    (place_known k.course.plan.params (journal_at k.journals controller) v beat) ≡ false

-- who is ordered to stop in a beat is gone from that beat, unless it has played to its end
abbrev pub AStoppedViewerIsGone : Kept → Type 0
AStoppedViewerIsGone k = (v beat : ℕ) → beat < k.course.beats → stop_ordered k.orders v beat ≡ true
    → IsNotOver k v beat → IsGoneFrom k v beat
