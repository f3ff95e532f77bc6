use Rattle.std.proofs.Common.{◌≡◌}
use Rattle.scenario_make.specs.Draws.{after}
use Rattle.scenario_make.specs.Troubles.{offsets_by}
use Rattle.scenario_make.proofs.troubles.offsets.Given as goal

abbrev pub invariant-loop-clock : goal.invariant-loop-clock
invariant-loop-clock l = record {
  offsets : l.offsets.items ≡ offsets_by l.fn.generator l.clock;
  generator : l.generator ≡ after l.clock l.fn.generator;
}
