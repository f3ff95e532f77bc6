use Rattle.std.proofs.Common.{◌≡◌, ℕ, [], Some, length}
use Rattle.std.specs.Prelude.{slice_get}
use Rattle.ring_workers.proofs.rows.empty_rows.Given as goal

abbrev pub invariant-loop-member : goal.invariant-loop-member
invariant-loop-member g l = record {
  none : (q : ℕ) (row : _) → slice_get l.rows.items q ≡ Some row → row ≡ [];
  size : length l.rows.items ≡ l._member;
}
