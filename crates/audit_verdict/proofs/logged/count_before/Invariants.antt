use Rattle.std.proofs.Common.{◌≡◌, ◌≤◌}
use Rattle.audit_verdict.specs.Verdicts.{count_before}
use Rattle.audit_verdict.proofs.logged.count_before.Given as goal

-- the lines so far are counted, and are no fewer
abbrev pub invariant-loop-j : goal.invariant-loop-j
invariant-loop-j l = record {
  counted : l.count ≡ count_before l.log l.node.0 l.j;
  few : l.count ≤ l.j;
}
