use Rattle.std.proofs.Common.{take, ◌<◌}
use Rattle.std.specs.List.{AllByRecursion}
use Rattle.audit_read.proofs.fits.bytes_fit.Given as goal

-- those so far fit
abbrev pub invariant-loop-b : goal.invariant-loop-b
invariant-loop-b l = AllByRecursion (λ b. b < 256) (take l.b-index l.bytes)
