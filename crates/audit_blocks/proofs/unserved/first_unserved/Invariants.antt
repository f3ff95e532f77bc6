use Rattle.std.proofs.Common.{take}
use Rattle.std.specs.List.{AllByRecursion}
use Rattle.audit_frame.specs.Lines.{told_by}
use Rattle.audit_blocks.specs.Verdicts.{IsServedIn}
use Rattle.audit_blocks.proofs.unserved.first_unserved.Given as goal

-- the entries so far are as they should be
abbrev pub invariant-loop-i : goal.invariant-loop-i
invariant-loop-i l = record {
  right : AllByRecursion (IsServedIn l.kept) (take l.i (told_by l.log));
}
