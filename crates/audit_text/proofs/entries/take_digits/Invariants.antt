use Rattle.std.proofs.Common.{◌≡◌, ◌≤◌, ◌++◌, length}
use Rattle.std.specs.Fmt.{decimal}
use Rattle.audit_text.proofs.entries.take_digits.Given as goal

-- the digits so far are those of the number so far, which is not 0
abbrev pub invariant-loop-digit : goal.invariant-loop-digit
invariant-loop-digit l = (decimal l.first ++ l.bytes ≡ decimal l.n ++ l.rest) × (1 ≤ l.n)

abbrev pub decreases-loop-digit : goal.decreases-loop-digit
decreases-loop-digit l = length l.rest
