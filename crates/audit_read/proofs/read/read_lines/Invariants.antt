use Rattle.std.proofs.Common.{◌+◌, ◌≤◌, length}
use Rattle.audit_read.specs.Reached.{Reached}
use Rattle.audit_read.proofs.read.read_lines.Given as goal

-- the lines so far are read, and each has a line feed
abbrev pub invariant-loop-first : goal.invariant-loop-first
invariant-loop-first l = record {
  reached : Reached l.bytes l.draft l.line l.rest;
  within : l.line + length l.rest ≤ length l.bytes + 1;
}

abbrev pub decreases-loop-first : goal.decreases-loop-first
decreases-loop-first l = length l.rest
