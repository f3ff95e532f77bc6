use Rattle.std.proofs.Common.{◌≡◌, ◌-◌, length, drop}
use Rattle.net_run.specs.Runs.{happened, ordered}
use Rattle.net_run.proofs.Steps.{IsAmid}
use Rattle.net_run.proofs.run.do_orders.Given as goal

-- what is left of the step's orders does the rest
abbrev pub invariant-loop-order : goal.invariant-loop-order
invariant-loop-order l = record {
  did : happened l.run (ordered (drop l.next l.orders) l.step) ≡ happened l.fn.run (ordered l.orders l.step);
  amid : IsAmid l.run.scene.world l.orders l.step l.next;
}

abbrev pub decreases-loop-order : goal.decreases-loop-order
decreases-loop-order l = length l.orders - l.next
