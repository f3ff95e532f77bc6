use Rattle.std.proofs.Common.{◌≡◌, ◌++◌}
use Rattle.std.specs.Prelude.{◌⊎◌}
use Rattle.ring_workers.specs.Ends.{HasEnd}
use Rattle.ring_workers.specs.Rows.{IsOfOuts}
use Rattle.ring_workers.proofs.rows.put_outs.Given as goal

abbrev pub invariant-loop-row : goal.invariant-loop-row
invariant-loop-row g l =
    (goal.iterator-loop-row g).can_next l.row-iterator ×
    (goal.iterator-loop-row g).is_finite l.row-iterator ×
    (l.yielded ++ l.row-iterator.rest.items ≡ l.fn.rows.items) ×
    ((k : _) (e : _) → HasEnd l.ends.items k e → (HasEnd l.fn.ends.items k e) ⊎ (IsOfOuts l.fn.rows.items k e))
