use Rattle.std.proofs.Common.{◌≡◌, ◌+◌, ◌-◌, ℕ, length, get_or}
use Rattle.audit_orders.proofs.mail.make_place.Given as goal

-- the numbers are as before
abbrev pub invariant-loop-counts : goal.invariant-loop-counts
invariant-loop-counts l = record {
  same : (n : ℕ) → get_or l.counts.items n 0 ≡ get_or l.fn.counts.items n 0;
}

abbrev pub decreases-loop-counts : goal.decreases-loop-counts
decreases-loop-counts l = l.stream + 1 - length l.counts.items
