use Rattle.std.proofs.Common.{List, length, ap, subst, sym, ◌∙◌}
use Rattle.node_kit.specs.declared.course.Order.{Order}
use Rattle.controller_core.specs.Orders.{AreOrders}
use Rattle.scenario_read.specs.declared.scenario.ScEvent.{ScEvent}
use Rattle.scenario_read.specs.Orders.{orders_from}
use Rattle.scenario_read.proofs.OrderFacts.{orders-given, orders_from-length}
use Rattle.scenario_read.proofs.orders.orders_of.Goals as goal

pub returns-clause-given : goal.returns-clause-given
returns-clause-given c =
    let same = c.new.ensures ∙ c.in_ok-orders.ensures ∙ ap (λ (es : List ScEvent). orders_from c.args.catalogue.now 0 es) c.as_slice.ensures in
    subst (λ (os : List Order). AreOrders c.args.scenario.now.course.plan.params os) (sym same) (orders-given c.args.scenario.now c.args.catalogue.now c.requires.scenario c.requires.disks)

pub returns-clause-all : goal.returns-clause-all
returns-clause-all c =
    let same = c.new.ensures ∙ c.in_ok-orders.ensures ∙ ap (λ (es : List ScEvent). orders_from c.args.catalogue.now 0 es) c.as_slice.ensures in
    ap (λ (os : List Order). length os) same ∙ orders_from-length c.args.catalogue.now 0 c.args.scenario.now.events
