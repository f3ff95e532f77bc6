use Rattle.std.proofs.Common.{◌≡◌, ◌≤◌, take}
use Rattle.audit_verdict.specs.Telling.{death_lines}
use Rattle.audit_verdict.proofs.line.deaths_below.Given as goal

-- the deaths of the cubs so far are counted, and are no more than the cubs
abbrev pub invariant-loop-i : goal.invariant-loop-i
invariant-loop-i l = record {
  counted : l.count ≡ death_lines (take l.i l.deaths);
  few : l.count ≤ l.i;
}
