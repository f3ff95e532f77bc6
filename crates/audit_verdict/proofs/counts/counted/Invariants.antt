use Rattle.std.proofs.Common.{take}
use Rattle.audit_frame.specs.Lines.{told_by}
use Rattle.audit_verdict.specs.Counting.{AreCountsIn}
use Rattle.audit_verdict.proofs.counts.counted.Given as goal

-- the entries so far are counted
abbrev pub invariant-loop-i : goal.invariant-loop-i
invariant-loop-i l = record { counted : AreCountsIn l.viewers.0 (take l.i (told_by l.log)) l.counts }
