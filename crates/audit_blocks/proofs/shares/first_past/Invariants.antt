use Rattle.std.proofs.Common.{◌≡◌, ℕ, ◌-◌, ◌<◌, ◌≤◌, true, false}
use Rattle.audit_blocks.specs.Shares.{lies_past}
use Rattle.audit_blocks.proofs.shares.first_past.Given as goal

-- none below the one number is past, and each from the other on is
abbrev pub invariant-loop-low : goal.invariant-loop-low
invariant-loop-low l = record {
  from : l.first ≤ l.low;
  order : l.low ≤ l.high;
  to : l.high ≤ l.end;
  before : (n : ℕ) → l.first ≤ n → n < l.low → lies_past l.k l.stops l.t n ≡ false;
  behind : (n : ℕ) → l.high ≤ n → n < l.end → lies_past l.k l.stops l.t n ≡ true;
}

abbrev pub decreases-loop-low : goal.decreases-loop-low
decreases-loop-low l = l.high - l.low
