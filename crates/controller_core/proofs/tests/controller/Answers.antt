use Rattle.std.proofs.Common.{◌<◌, arith, sym, subst}
use Rattle.slot_plan.specs.Times.{disk_count}
use Rattle.controller_core.specs.Orders.{AreOrders}
use Rattle.controller_core.proofs.StartAndStops.{are_orders}
use Rattle.controller_core.proofs.tests.controller.Goals as goal

pub new-requires : goal.new-requires
new-requires c =
    let inside : c.ask.result.disk.0 < disk_count c.small_plan.result.params = rw (c.ask.ensures.disk, c.small_plan.ensures) (omega arith) in
    subst (λ orders. AreOrders c.small_plan.result.params orders) (sym c.in_ok-orders.ensures) (are_orders c.small_plan.result.params c.ask.result c.args.first c.args.second c.requires inside c.ask.ensures.instance)
