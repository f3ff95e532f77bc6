-- When a cub forwards the state of the visit behind a record's, and to whom it sends the state of a
-- visit.
use Rattle.std.specs.Prelude.{ℕ, ◌+◌, ◌%◌, Bool, ◌&&◌, ◌||◌, ◌==◌, nat_lt, nat_le, List, [], ◌∷◌, if◌then◌else◌}
use Rattle.tiger_base.specs.declared.number.Stamp.{Stamp}
use Rattle.tiger_base.specs.declared.number.CubNo.{CubNo}
use Rattle.tiger_base.specs.declared.tenancy.Rec.{Rec}
use Rattle.tiger_base.specs.Kinds.{is_own}
use Rattle.slot_plan.specs.declared.params.Params.{Params}
use Rattle.slot_plan.specs.Times.{due, cub_of}

-- whether a cub forwards ahead of the latest time in this beat
abbrev pub is_batch_beat : Params → ℕ → Bool
is_batch_beat p beat = beat % p.batch == 0

-- how long before its due time a visit's state is forwarded in a beat, at the earliest
abbrev pub lead_in : Params → ℕ → ℕ
lead_in p beat = if is_batch_beat p beat then p.max_lead else p.min_lead

-- when the visit behind a record's is due
abbrev pub next_due : Params → Rec → ℕ
next_due p rec = due p rec.tenancy.slot.0 (rec.visit + 1)

-- whether it is due at a reading and a lead, or before it
abbrev pub is_next_due : Params → Rec → ℕ → Bool
is_next_due p rec time = nat_le (next_due p rec) time

-- whether it is due within the minimum lead or, in a batch beat, within the maximum lead
abbrev pub is_in_lead : Params → Stamp → Rec → Bool
is_in_lead p stamp rec =
    is_next_due p rec (stamp.reading + p.min_lead)
    || (is_batch_beat p stamp.beat && is_next_due p rec (stamp.reading + p.max_lead))

-- whether the state of the next visit is forwarded: of an own record below its tenancy's last
-- visit, in time
unfoldable pub must_forward : Params → Stamp → Rec → Bool
must_forward p stamp rec =
    is_own rec.kind && nat_lt rec.visit rec.tenancy.last && is_in_lead p stamp rec

-- the cubs that care for a visit: that of the visit, and that of the next
unfoldable pub targets : Params → ℕ → List CubNo
targets p visit = record { 0 = cub_of p visit } ∷ record { 0 = cub_of p (visit + 1) } ∷ []
