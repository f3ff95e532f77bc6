use Rattle.std.proofs.Common.{◌≡◌, ◌+◌, ◌-◌, ℕ, length, get_or, []}
use Rattle.audit_orders.proofs.mail.make_row.Given as goal

-- the messages are as before
abbrev pub invariant-loop-alloc : goal.invariant-loop-alloc
invariant-loop-alloc l = record {
  same : (n : ℕ) → get_or l.rows.items n [] ≡ get_or l.fn.rows.items n [];
}

abbrev pub decreases-loop-alloc : goal.decreases-loop-alloc
decreases-loop-alloc l = l.stream + 1 - length l.rows.items
