-- The schedule at a moment: which tenancy has each slot, by all entries so far, and which instances were stopped.
use Rattle.std.specs.Prelude.{◌≡◌, ℕ, ◌<◌, Bool, ◌==◌, List, [], ◌∷◌, ◌++◌, Option, Some, None, if◌then◌else◌}
use Rattle.std.specs.List.{fold, list_any}
use Rattle.tiger_base.specs.declared.tenancy.Tenancy.{Tenancy}
use Rattle.node_kit.specs.declared.journal.What.{What}
use Rattle.node_kit.specs.declared.journal.What.TheVariants as what
use Rattle.run_facts.specs.Order.{Noted, beat_of}

-- an instance was stopped in a beat
pub record Stop : Type 0 where
  pub instance : ℕ
  pub beat : ℕ

-- a map from slot to tenancy, and the stops in their order
pub record Schedule : Type 0 where
  pub holder : ℕ → Option Tenancy
  pub stops : List Stop

abbrev pub empty_schedule : Schedule
empty_schedule = record { holder = λ slot. None; stops = [] }

-- whether an instance was stopped
abbrev pub is_stopped : ℕ → List Stop → Bool
is_stopped v stops = list_any (λ stop. stop.instance == v) stops

-- the tenancy, unless it is the instance's
abbrev pub unless_of : ℕ → Option Tenancy → Option Tenancy
unless_of v None = None
unless_of v (Some t) = if t.instance.0 == v then None else Some t

-- what an entry makes of the schedule: an instance that is put has its slot, unless it was stopped before; one
-- that is stopped has none
abbrev pub changed : Schedule → ℕ → What → Schedule
changed s beat (what.Put t) =
    if is_stopped t.instance.0 s.stops then s
    else record { holder = λ slot. if t.slot.0 == slot then Some t else s.holder slot; stops = s.stops }
changed s beat (what.Gone v) =
    record { holder = λ slot. unless_of v.0 (s.holder slot); stops = s.stops ++ (record { instance = v.0; beat = beat }) ∷ [] }
changed s beat other = s

unfoldable pub after_entry : Schedule → Noted → Schedule
after_entry s x = changed s (beat_of x) x.entry.what

-- the schedule after these entries
abbrev pub schedule_of : List Noted → Schedule
schedule_of front = fold after_entry empty_schedule front

-- a slot is free from a visit on: no tenancy has it, or one that ends before
abbrev pub IsFreeFrom : Schedule → ℕ → ℕ → Type 0
IsFreeFrom s slot visit = (t : Tenancy) → s.holder slot ≡ Some t → t.last < visit
