use Rattle.std.proofs.Common.{◌≡◌, drop}
use Rattle.scenario_check.specs.Stays.{first_stop}
use Rattle.scenario_check.proofs.stays.first_stop.Given as goal

abbrev pub invariant-loop-order : goal.invariant-loop-order
invariant-loop-order l = first_stop l.v.0 (drop l.order-index l.orders) ≡ first_stop l.v.0 l.orders
