use Rattle.std.proofs.Common.{◌≡◌, ◌++◌, take}
use Rattle.audit_frame.specs.Lines.{told_by, journal_told}
use Rattle.audit_frame.proofs.lines.push_entries.Given as goal

-- what is pushed is what the entries so far tell
abbrev pub invariant-loop-entry : goal.invariant-loop-entry
invariant-loop-entry l = record {
  told : told_by l.lines.items ≡ told_by l.fn.lines.items ++ journal_told l.beats l.node.0 (take l.entry-index l.entries);
}
