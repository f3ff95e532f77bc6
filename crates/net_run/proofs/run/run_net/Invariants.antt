use Rattle.std.proofs.Common.{◌≡◌, ◌-◌}
use Rattle.net_run.specs.Runs.{run_to}
use Rattle.net_run.specs.Sent.{IsAtStep}
use Rattle.net_run.proofs.Asked.{asks_to}
use Rattle.net_run.proofs.Beside.{IsBeside}
use Rattle.net_run.proofs.run.run_net.Given as goal

abbrev pub invariant-loop-step : goal.invariant-loop-step
invariant-loop-step l = record {
  beside : IsBeside (l.plan.steps - l.step) (asks_to l.plan.orders l.step) (run_to l.plan l.step) l.run;
  ring : l.run.scene.world.ring ≡ l.plan.ring;
  at : IsAtStep l.run.scene.world l.plan.orders l.step l.next;
}
