use Rattle.std.proofs.Common.{◌≡◌, ◌<◌, List, ap, sym, subst, arith}
use Rattle.tiger_base.specs.declared.tenancy.Ask.{Ask}
use Rattle.slot_plan.specs.declared.params.Params.{Params}
use Rattle.slot_plan.specs.Samples.{small}
use Rattle.slot_plan.specs.Times.{disk_count}
use Rattle.node_kit.specs.declared.course.Order.{Order}
use Rattle.controller_core.specs.Orders.{AreOrders}
use Rattle.controller_core.proofs.StartAndStops.{start_and_stops, are_orders}
use Rattle.tests_of_rings.proofs.rings.push_story.Goals as goal

are_ours : (p : Params) (ask : Ask) (os : List Order) → p ≡ small → ask.disk.0 ≡ 0 → ask.instance.0 ≡ 0 → os ≡ start_and_stops ask 1 2 → AreOrders p os
are_ours p ask os params disk instance is =
    let count : disk_count p ≡ 8 = ap disk_count params in
    let inside : ask.disk.0 < disk_count p = omega (arith, count, disk) in
    subst (λ (orders : List Order). AreOrders p orders) (sym is) (are_orders p ask 1 2 (omega arith) inside instance)

pub push_nodes-requires-clause-orders : goal.push_nodes-requires-clause-orders
push_nodes-requires-clause-orders c =
    are_ours c.args.course.now.plan.params c.ask.result _ c.requires.params c.ask.ensures.disk c.ask.ensures.instance c.in_ok-orders.ensures

pub new-requires-clause-orders : goal.new-requires-clause-orders
new-requires-clause-orders c =
    are_ours c.args.course.now.plan.params c.ask.result _ c.requires.params c.ask.ensures.disk c.ask.ensures.instance c.in_ok-orders.ensures
