-- The viewer states of a tenancy.
use Rattle.std.specs.Prelude.{ℕ, ◌+◌, ◌≤◌, Bool, ◌&&◌, nat_le, Option, Some, None, if◌then◌else◌}
use Rattle.tiger_base.specs.declared.tenancy.Tenancy.{Tenancy}
use Rattle.tiger_base.specs.declared.tenancy.State.{State}

-- the visit is one of the tenancy's
abbrev pub IsVisitOf : Tenancy → ℕ → Type 0
IsVisitOf t visit = (t.first ≤ visit) × (visit ≤ t.last)

-- whether it is
abbrev pub is_visit_of : Tenancy → ℕ → Bool
is_visit_of t visit = nat_le t.first visit && nat_le visit t.last

-- the state of a visit, if the visit is one of the tenancy's
abbrev pub state_for : Tenancy → ℕ → Option State
state_for t visit =
    if is_visit_of t visit then Some (record { tenancy = t; visit = visit }) else None

-- the state of the visit behind a state's, if the tenancy has one
abbrev pub next_state : State → Option State
next_state s = state_for s.tenancy (s.visit + 1)
