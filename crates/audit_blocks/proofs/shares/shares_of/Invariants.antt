use Rattle.std.proofs.Common.{take}
use Rattle.audit_frame.specs.Lines.{told_by}
use Rattle.audit_blocks.specs.Shares.{AreSharesOf}
use Rattle.audit_blocks.proofs.shares.shares_of.Given as goal

-- the entries so far are counted
abbrev pub invariant-loop-i : goal.invariant-loop-i
invariant-loop-i l = record { counted : AreSharesOf l.kept (take l.i (told_by l.log)) l.shares }
