use Rattle.std.proofs.Common.{◌≡◌, ◌≤◌, drop, None}
use Rattle.kept_worlds.specs.Events.{said_in}
use Rattle.kept_worlds.specs.Turning.{turns}
use Rattle.kept_worlds.proofs.turn.sends_in_tick.Given as goal

-- what the entries that are left make of the turn is what all make, and no more messages were sent than there are entries
abbrev pub invariant-loop-entry : goal.invariant-loop-entry
invariant-loop-entry l = record {
  left : turns l.turn (said_in l.beat (drop l.entry-index l.entries))
      ≡ turns (record { taking = None; sends = 0 }) (said_in l.beat l.entries);
  few : l.turn.sends ≤ l.entry-index;
}
