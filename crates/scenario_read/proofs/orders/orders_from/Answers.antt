use Rattle.std.proofs.Common.{[], ◌∷◌, ◌++◌, ap, ◌∙◌, arith}
use Rattle.node_kit.specs.declared.course.Order.{Order}
use Rattle.scenario_read.proofs.OrderFacts.{GivesOrders-more, GivesOrders-all}
use Rattle.scenario_read.proofs.EventFacts.{starts_in-more}
use Rattle.scenario_read.proofs.orders.orders_from.Goals as goal

pub loop-event-preserved : goal.loop-event-preserved
loop-event-preserved c =
    let so_far = c.loop-event.orders.items in
    record {
      count = starts_in-more c.args.events.now c.loop-event.event-index c.loop-event.starts c.starts_with-starts.result _ (omega arith) c.loop-event.invariant.count c.starts_with-starts.ensures;
      orders =
          rw (c.in_ok-push.ensures.items ∙ ap (λ (o : Order). so_far ++ o ∷ []) c.order_of.ensures)
          (GivesOrders-more c.args.catalogue.now c.args.events.now so_far c.loop-event.event-index c.loop-event.starts c.starts_with-starts.result _ (omega arith) c.starts_with-starts.ensures c.loop-event.invariant.orders);
    }

pub returns : goal.returns
returns c = GivesOrders-all c.args.catalogue.now c.args.events.now c.loop-event.orders.items c.loop-event.event-index c.loop-event.starts (omega arith) c.loop-event.invariant.orders
