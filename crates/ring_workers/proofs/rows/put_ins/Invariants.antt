use Rattle.std.proofs.Common.{◌≡◌, ◌++◌}
use Rattle.std.specs.Prelude.{◌⊎◌}
use Rattle.ring_workers.specs.Ends.{HasEnd}
use Rattle.ring_workers.specs.Rows.{IsOfIn}
use Rattle.ring_workers.proofs.rows.put_ins.Given as goal

abbrev pub invariant-loop-port : goal.invariant-loop-port
invariant-loop-port g l =
    (goal.iterator-loop-port g).can_next l.port-iterator ×
    (goal.iterator-loop-port g).is_finite l.port-iterator ×
    (l.yielded ++ l.port-iterator.rest.items ≡ l.fn.row.items) ×
    ((k : _) (e : _) → HasEnd l.ends.items k e → (HasEnd l.fn.ends.items k e) ⊎ (IsOfIn l.fn.row.items k e))
