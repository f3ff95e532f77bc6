use Rattle.std.proofs.Common.{◌≡◌, take}
use Rattle.scenario_read.specs.Events.{starts_in}
use Rattle.scenario_read.proofs.OrderFacts.{GivesOrders}
use Rattle.scenario_read.proofs.orders.orders_from.Given as goal

abbrev pub invariant-loop-event : goal.invariant-loop-event
invariant-loop-event l = record {
  count : l.starts ≡ starts_in (take l.event-index l.events);
  orders : GivesOrders l.catalogue l.events l.orders.items l.event-index l.starts;
}
