use Rattle.std.proofs.Common.{◌≡◌, ◌++◌, List, drop}
use Rattle.run_facts.specs.Order.{Noted, in_beat}
use Rattle.run_model.specs.Slots.{Walks}
use Rattle.run_model.proofs.slots.Walk.beat.Given as goal

-- the walk went past the entries of the journals so far
abbrev pub invariant-loop-journal : goal.invariant-loop-journal
invariant-loop-journal l = record {
  done : List Noted;
  rest : in_beat l.beat 0 l.k.journals ≡ done ++ in_beat l.beat l.journal-index (drop l.journal-index l.journal-items);
  walks : Walks l.initial.self l.self done;
}
