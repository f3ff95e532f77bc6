use Rattle.std.proofs.Common.{◌≡◌, take}
use Rattle.scenario_read.specs.Events.{starts_in}
use Rattle.scenario_read.proofs.events.starts_in.Given as goal

abbrev pub invariant-loop-event : goal.invariant-loop-event
invariant-loop-event l = l.starts ≡ starts_in (take l.event-index l.events)
