use Rattle.std.proofs.Common.{◌≡◌, length}
use Rattle.scenario_read.specs.Events.{event_after, latest_beat, starts_in}
use Rattle.scenario_read.proofs.Loop.{GoesOn}
use Rattle.scenario_read.proofs.events.events_after.Given as goal

abbrev pub invariant-loop-value : goal.invariant-loop-value
invariant-loop-value l = record {
  count : length l.events.items ≡ l.value-index;
  latest : l.latest ≡ latest_beat l.events.items;
  starts : l.starts ≡ starts_in l.events.items;
  meaning : GoesOn 9 (event_after l.beats l.files) l.events.items l.values l.value-index;
}
