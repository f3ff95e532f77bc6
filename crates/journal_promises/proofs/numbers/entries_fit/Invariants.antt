use Rattle.std.proofs.Common.{take}
use Rattle.std.specs.List.{AllByRecursion}
use Rattle.audit_text.specs.Fits.{ItemFits}
use Rattle.audit_text.specs.declared.item.Item.TheVariants as item
use Rattle.journal_promises.proofs.numbers.entries_fit.Given as goal

-- those so far fit
abbrev pub invariant-loop-e : goal.invariant-loop-e
invariant-loop-e l = AllByRecursion (λ e. ItemFits (item.Entry e)) (take l.e-index l.journal)
