use Rattle.std.proofs.Common.{◌≡◌, ◌*◌, ◌≤◌}
use Rattle.scenario_make.specs.Events.{at_start, beat_by, events_by}
use Rattle.scenario_make.proofs.events.events.Given as goal

abbrev pub invariant-loop-start : goal.invariant-loop-start
invariant-loop-start l = record {
  events : l.events.items ≡ events_by l.fn.generator l.start;
  generator : l.generator ≡ at_start l.fn.generator l.start;
  beat : l.beat ≡ beat_by l.fn.generator l.start;
  early : l.beat ≤ 9 * l.start;
}
