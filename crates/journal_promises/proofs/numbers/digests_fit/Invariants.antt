use Rattle.std.proofs.Common.{take}
use Rattle.std.specs.List.{AllByRecursion}
use Rattle.audit_text.specs.Fits.{ItemFits}
use Rattle.audit_text.specs.declared.item.Item.TheVariants as item
use Rattle.journal_promises.proofs.numbers.digests_fit.Given as goal

-- those so far fit
abbrev pub invariant-loop-d : goal.invariant-loop-d
invariant-loop-d l = AllByRecursion (λ d. ItemFits (item.Digest d)) (take l.d-index l.digests)
