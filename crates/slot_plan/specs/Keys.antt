-- Visits of slots by slot and visit, and their order: by due time, then slot, then visit.
use Rattle.std.specs.Prelude.{ℕ, ◌^◌, ◌<◌, ◌≤◌, Bool, true, ◌&&◌, ◌||◌, ◌==◌, nat_lt, Option, Some, None, if◌then◌else◌}
use Rattle.tiger_base.specs.declared.number.SlotNo.{SlotNo}
use Rattle.slot_plan.specs.declared.params.Params.{Params}
use Rattle.slot_plan.specs.Times.{due}

-- a slot, and the number of a visit of it
abbrev pub Key : Type 0
Key = SlotNo × ℕ

-- the slot is one of the plan's, and the visit is in reach of the calls
abbrev pub IsKey : Params → Key → Type 0
IsKey p k = (k.0.0 < p.slots) × (k.1 ≤ 2 ^ 32)

-- when the visit of a key is due
abbrev pub due_of : Params → Key → ℕ
due_of p k = due p k.0.0 k.1

-- whether the first visit comes before the second: by due time, then slot, then visit
unfoldable pub is_earlier : Params → Key → Key → Bool
is_earlier p a b =
    nat_lt (due_of p a) (due_of p b)
    || (due_of p a == due_of p b && (nat_lt a.0.0 b.0.0 || (a.0.0 == b.0.0 && nat_lt a.1 b.1)))

-- whether a visit comes behind a given one, if one is given
unfoldable pub is_behind : Params → Option Key → Key → Bool
is_behind p None k = true
is_behind p (Some a) k = is_earlier p a k

-- the earlier one of two visits, if both are there
unfoldable pub sooner : Params → Option Key → Option Key → Option Key
sooner p None b = b
sooner p (Some a) None = Some a
sooner p (Some a) (Some b) = if is_earlier p b a then Some b else Some a
