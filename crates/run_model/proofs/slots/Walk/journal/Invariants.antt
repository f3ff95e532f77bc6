use Rattle.std.proofs.Common.{ℕ, take}
use Rattle.run_model.specs.Slots.{Walks, beat_entries}
use Rattle.run_model.proofs.slots.Walk.journal.Given as goal

-- the walk went past the entries of the beat so far
abbrev pub invariant-loop-e : goal.invariant-loop-e
invariant-loop-e l = (n : ℕ) → Walks l.initial.self l.self (beat_entries l.beat n (take l.e-index l.journal))
