use Rattle.std.proofs.Common.{take}
use Rattle.std.specs.List.{AllByRecursion}
use Rattle.journal_promises.specs.Numbers.{AreEntriesFit}
use Rattle.journal_promises.proofs.numbers.journals_fit.Given as goal

-- those so far fit
abbrev pub invariant-loop-journal : goal.invariant-loop-journal
invariant-loop-journal l = AllByRecursion AreEntriesFit (take l.journal-index l.journals)
