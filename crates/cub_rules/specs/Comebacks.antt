-- What is otherwise with a cub that came back, and with the successor of one: which records enter, which visits are served,
-- and which are split.
use Rattle.std.specs.Prelude.{ℕ, ◌+◌, ◌*◌, ◌==◌, ◌&&◌, List, Bool, true, false, not, nat_le, filter, Option, Some, None}
use Rattle.tiger_base.specs.declared.tenancy.Rec.{Rec}
use Rattle.slot_plan.specs.declared.params.Params.{Params}
use Rattle.slot_plan.specs.Times.{due}
use Rattle.cub_rules.specs.declared.comeback.Comeback.{Comeback}

-- A cub that came back at a reading lets in what is due late enough that no state of it can have come while the cub was
-- away. It serves what is due three block play times later still, so that its successor knows of the return before it has
-- a record of such a visit.
abbrev pub comeback_at : Params → ℕ → Comeback
comeback_at p reading = record {
  enters = reading + p.max_lead + 3 * p.play + p.skew;
  serves = reading + p.max_lead + 6 * p.play;
}

-- when the visit of a record is due
abbrev pub due_of_record : Params → Rec → ℕ
due_of_record p r = due p r.tenancy.slot.0 r.visit

-- whether what is due, or leaves, at a time may enter
abbrev pub lets_in : Option Comeback → ℕ → Bool
lets_in None time = true
lets_in (Some c) time = nat_le c.enters time

-- of some records those that may enter
abbrev pub records_let_in : Params → Option Comeback → List Rec → List Rec
records_let_in p None rs = rs
records_let_in p (Some c) rs = filter (λ r. nat_le c.enters (due_of_record p r)) rs

-- whether the own record of a visit that is due at a time is read, and its block sent
abbrev pub serves_at : Option Comeback → ℕ → Bool
serves_at None time = true
serves_at (Some c) time = nat_le c.serves time

-- Whether a visit of the predecessor, which came back and said from when on it serves, is left to it: one that is due by
-- then, unless it is its tenancy's first. A first visit has no record at the predecessor, which puts nobody.
abbrev pub is_handed_back : Params → Option ℕ → Rec → Bool
is_handed_back p None r = false
is_handed_back p (Some from) r = nat_le from (due_of_record p r) && not (r.visit == r.tenancy.first)
