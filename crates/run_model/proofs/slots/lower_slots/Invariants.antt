use Rattle.std.proofs.Common.{◌≡◌, ◌+◌, drop}
use Rattle.run_model.specs.Slots.{lower_slots}
use Rattle.run_model.proofs.slots.lower_slots.Given as goal

-- the count is the index, and what is left is counted from there
abbrev pub invariant-loop-u : goal.invariant-loop-u
invariant-loop-u l = record {
  index : l.count ≡ l.u-index;
  rest : lower_slots l.slot.0 l.slots ≡ l.count + lower_slots l.slot.0 (drop l.u-index l.slots);
}
