use Rattle.std.proofs.Common.{◌≡◌, drop}
use Rattle.run_model.specs.Tests.{each_from, returns_in}
use Rattle.run_model.proofs.timing.all_return.Given as goal

-- the number is the journal's, and what is left decides
abbrev pub invariant-loop-journal : goal.invariant-loop-journal
invariant-loop-journal l = record {
  number : l.n ≡ l.journal-index;
  rest : each_from (returns_in l.k.course) 0 l.k.journals ≡ each_from (returns_in l.k.course) l.n (drop l.journal-index l.journal-items);
}
