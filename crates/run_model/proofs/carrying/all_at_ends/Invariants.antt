use Rattle.std.proofs.Common.{◌≡◌, drop}
use Rattle.run_model.specs.Tests.{each_from, at_ends}
use Rattle.run_model.proofs.carrying.all_at_ends.Given as goal

-- the number is the journal's, and what is left decides
abbrev pub invariant-loop-journal : goal.invariant-loop-journal
invariant-loop-journal l = record {
  number : l.n ≡ l.journal-index;
  rest : each_from (at_ends l.links) 0 l.k.journals ≡ each_from (at_ends l.links) l.n (drop l.journal-index l.journal-items);
}
