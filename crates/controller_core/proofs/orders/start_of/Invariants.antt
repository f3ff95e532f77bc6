use Rattle.std.proofs.Common.{◌≡◌, drop}
use Rattle.controller_core.specs.Orders.{start_of}
use Rattle.controller_core.proofs.orders.start_of.Given as goal

abbrev pub invariant-loop-order : goal.invariant-loop-order
invariant-loop-order l = start_of (drop l.order-index l.orders) l.instance ≡ start_of l.orders l.instance
