use Rattle.std.proofs.Common.{◌≡◌, drop}
use Rattle.std.specs.List.{fold}
use Rattle.audit_text.specs.Scanning.{nothing, scanned, scanned_to}
use Rattle.audit_text.proofs.scan.read_numbers.Given as goal

-- with what is left, it will be the whole line
abbrev pub invariant-loop-b : goal.invariant-loop-b
invariant-loop-b l = fold scanned (scanned_to l.numbers.items l.number) (drop l.b-index l.line) ≡ fold scanned nothing l.line
