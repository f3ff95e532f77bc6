use Rattle.std.proofs.Common.{◌≡◌, take}
use Rattle.audit_verdict.specs.Telling.{lines_in}
use Rattle.audit_verdict.proofs.line.lines_below.Given as goal

-- the lines of the nodes so far are counted
abbrev pub invariant-loop-i : goal.invariant-loop-i
invariant-loop-i l = record { counted : l.lines ≡ lines_in (take l.i l.journals) }
