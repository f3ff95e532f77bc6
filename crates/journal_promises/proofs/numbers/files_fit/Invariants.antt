use Rattle.std.proofs.Common.{take}
use Rattle.std.specs.List.{AllByRecursion}
use Rattle.audit_text.specs.Fits.{ItemFits}
use Rattle.audit_text.specs.declared.item.Item.TheVariants as item
use Rattle.journal_promises.proofs.numbers.files_fit.Given as goal

-- those so far fit
abbrev pub invariant-loop-f : goal.invariant-loop-f
invariant-loop-f l = AllByRecursion (λ f. ItemFits (item.File f)) (take l.f-index l.files)
