-- That the numbers of a kept value lie in the ranges of their types.
use Rattle.std.specs.Prelude.{List}
use Rattle.std.specs.List.{AllByRecursion}
use Rattle.node_kit.specs.declared.course.Kept.{Kept}
use Rattle.node_kit.specs.declared.journal.Entry.{Entry}
use Rattle.audit_text.specs.declared.item.Item.TheVariants as item
use Rattle.audit_text.specs.Fields.{params_fields}
use Rattle.audit_text.specs.Fits.{IsLong, ItemFits}

-- the numbers of each entry do
abbrev pub AreEntriesFit : List Entry → Type 0
AreEntriesFit journal = AllByRecursion (λ e. ItemFits (item.Entry e)) journal

-- all numbers do but those of deaths, of which more is asked. A number of a definition is any number, and so only who
-- reads a value knows it.
pub record HasNumbers (k : Kept) : Type 0 where
  pub plan : AllByRecursion IsLong (params_fields k.course.plan.params)
  pub delay : ItemFits (item.Delay k.course.delay)
  pub offsets : AllByRecursion IsLong k.course.offsets
  pub faults : AllByRecursion (λ f. ItemFits (item.Fault f)) k.course.faults
  pub files : AllByRecursion (λ f. ItemFits (item.File f)) k.catalogue.files
  pub orders : AllByRecursion (λ o. ItemFits (item.Order o)) k.orders
  pub journals : AllByRecursion AreEntriesFit k.journals
  pub digests : AllByRecursion (λ d. ItemFits (item.Digest d)) k.digests
