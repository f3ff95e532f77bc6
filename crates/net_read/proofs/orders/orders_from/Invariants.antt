use Rattle.std.proofs.Common.{◌≤◌}
use Rattle.net_read.proofs.Loop.{IsLeft}
use Rattle.net_read.proofs.orders.orders_from.Given as goal

abbrev pub invariant-loop-value : goal.invariant-loop-value
invariant-loop-value l = record {
  few : l.asks ≤ l.value-index;
  left : IsLeft l.ring l.steps l.latest l.asks l.orders.items l.values l.value-index;
}
