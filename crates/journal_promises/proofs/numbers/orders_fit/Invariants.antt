use Rattle.std.proofs.Common.{take}
use Rattle.std.specs.List.{AllByRecursion}
use Rattle.audit_text.specs.Fits.{ItemFits}
use Rattle.audit_text.specs.declared.item.Item.TheVariants as item
use Rattle.journal_promises.proofs.numbers.orders_fit.Given as goal

-- those so far fit
abbrev pub invariant-loop-o : goal.invariant-loop-o
invariant-loop-o l = AllByRecursion (λ o. ItemFits (item.Order o)) (take l.o-index l.orders)
