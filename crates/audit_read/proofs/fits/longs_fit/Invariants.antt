use Rattle.std.proofs.Common.{take}
use Rattle.std.specs.List.{AllByRecursion}
use Rattle.audit_text.specs.Fits.{IsLong}
use Rattle.audit_read.proofs.fits.longs_fit.Given as goal

-- those so far fit
abbrev pub invariant-loop-n : goal.invariant-loop-n
invariant-loop-n l = AllByRecursion IsLong (take l.n-index l.ns)
