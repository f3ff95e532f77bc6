use Rattle.std.proofs.Common.{◌≡◌, ◌*◌}
use Rattle.scenario_make.specs.Draws.{after}
use Rattle.scenario_make.specs.Troubles.{faults_by}
use Rattle.scenario_make.proofs.troubles.faults.Given as goal

abbrev pub invariant-loop-fault : goal.invariant-loop-fault
invariant-loop-fault l = record {
  faults : l.faults.items ≡ faults_by l.fn.generator l.fault;
  generator : l.generator ≡ after (3 * l.fault) l.fn.generator;
}
