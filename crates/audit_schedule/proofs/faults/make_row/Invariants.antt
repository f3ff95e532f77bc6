use Rattle.std.proofs.Common.{◌≡◌, ◌+◌, ◌-◌, ℕ, length, get_or, []}
use Rattle.audit_schedule.proofs.faults.make_row.Given as goal

-- the faults are as before
abbrev pub invariant-loop-alloc : goal.invariant-loop-alloc
invariant-loop-alloc l = record {
  same : (n : ℕ) → get_or l.rows.items n [] ≡ get_or l.fn.rows.items n [];
}

abbrev pub decreases-loop-alloc : goal.decreases-loop-alloc
decreases-loop-alloc l = l.disk + 1 - length l.rows.items
