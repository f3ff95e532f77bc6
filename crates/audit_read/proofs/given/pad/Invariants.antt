use Rattle.std.proofs.Common.{◌≡◌, ◌++◌, replicate, None}
use Rattle.audit_read.proofs.given.pad.Given as goal

-- so many more are told nothing of
abbrev pub invariant-loop-n : goal.invariant-loop-n
invariant-loop-n l = l.row ≡ l.fn.row ++ replicate l.n None
