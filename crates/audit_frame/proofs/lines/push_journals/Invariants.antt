use Rattle.std.proofs.Common.{◌≡◌, ◌++◌, drop}
use Rattle.audit_frame.specs.Lines.{told_by, journals_told}
use Rattle.audit_frame.proofs.lines.push_journals.Given as goal

-- what is pushed and what the journals that are left tell is what all journals tell
abbrev pub invariant-loop-n : goal.invariant-loop-n
invariant-loop-n l = record {
  told : told_by l.lines.items ++ journals_told l.beats l.n (drop l.n l.journals)
      ≡ told_by l.fn.lines.items ++ journals_told l.beats 0 l.journals;
}
