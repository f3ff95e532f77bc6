use Rattle.std.proofs.Common.{◌≡◌, ◌≤◌, drop}
use Rattle.kept_worlds.specs.Events.{said_in}
use Rattle.kept_worlds.specs.Turning.{sends_of_take}
use Rattle.kept_worlds.proofs.turn.sends_in_take.Given as goal

-- what the entries that are left make of the messages so far is what all make, and there are no more than entries
abbrev pub invariant-loop-entry : goal.invariant-loop-entry
invariant-loop-entry l = record {
  left : sends_of_take l.message l.sends (said_in l.beat (drop l.entry-index l.entries))
      ≡ sends_of_take l.message 0 (said_in l.beat l.entries);
  few : l.sends ≤ l.entry-index;
}
