use Rattle.std.proofs.Common.{◌≡◌, ◌++◌, take}
use Rattle.audit_text.specs.Lines.{spaced}
use Rattle.audit_text.proofs.writing.push_numbers.Given as goal

-- those so far are written
abbrev pub invariant-loop-n : goal.invariant-loop-n
invariant-loop-n l = l.text.items ≡ l.fn.text.items ++ spaced (take l.n-index l.numbers)
