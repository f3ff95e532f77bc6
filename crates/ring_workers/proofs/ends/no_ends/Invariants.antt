use Rattle.std.proofs.Common.{◌≡◌, length}
use Rattle.ring_workers.specs.Ends.{HasEnd}
use Rattle.ring_workers.proofs.ends.no_ends.Given as goal

abbrev pub invariant-loop-link : goal.invariant-loop-link
invariant-loop-link g l = record {
  none : (k : _) (e : _) → HasEnd l.ends.items k e → ⊥;
  size : length l.ends.items ≡ l._link;
}
