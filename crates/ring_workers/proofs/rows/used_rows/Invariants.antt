use Rattle.ring_workers.specs.Rows.{AreEmptyFrom}
use Rattle.ring_workers.proofs.rows.used_rows.Given as goal

abbrev pub invariant-loop-place : goal.invariant-loop-place
invariant-loop-place g l = AreEmptyFrom l.used l.place l.rows
