use Rattle.std.proofs.Common.{◌≡◌, ◌≤◌, ◌++◌, drop, length}
use Rattle.scenario_check.specs.Stays.{stays_among}
use Rattle.scenario_check.proofs.stays.stays_of.Given as goal

abbrev pub invariant-loop-order : goal.invariant-loop-order
invariant-loop-order l = record {
  stays : l.stays.items ++ stays_among l.orders (drop l.order-index l.orders) ≡ stays_among l.orders l.orders;
  few : length l.stays.items ≤ l.order-index;
}
