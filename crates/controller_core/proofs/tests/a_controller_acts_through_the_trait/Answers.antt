use Rattle.std.proofs.Common.{◌<◌, arith, ap, sym, subst, ◌∙◌}
use Rattle.slot_plan.specs.declared.params.Params.{Params}
use Rattle.slot_plan.specs.Conditions.{IsPlan}
use Rattle.slot_plan.specs.Times.{disk_count}
use Rattle.controller_core.specs.Orders.{AreOrders}
use Rattle.controller_core.specs.State.{ControllerState}
use Rattle.controller_core.proofs.StartAndStops.{are_orders}
use Rattle.controller_core.proofs.Told.{told_controller}
use Rattle.controller_core.proofs.tests.a_controller_acts_through_the_trait.Goals as goal

pub new-controller-requires : goal.new-controller-requires
new-controller-requires g c =
    let inside : c.ask.result.disk.0 < disk_count c.small_plan-plan.result.params = rw (c.ask.ensures.disk, c.small_plan-plan.ensures) (omega arith) in
    subst (λ orders. AreOrders c.small_plan-plan.result.params orders) (sym c.in_ok-orders.ensures) (are_orders c.small_plan-plan.result.params c.ask.result 2 3 (omega arith) inside c.ask.ensures.instance)

pub told-requires-clause-in_link : goal.told-requires-clause-in_link
told-requires-clause-in_link g c =
    let made = ap (λ (s : ControllerState). s.params) c.new-controller.ensures in
    told_controller c.new-controller.result (subst (λ (p : Params). IsPlan p) (sym made) c.small_plan-plan.result.sound) (ap (λ (p : Params). p.cubs) made ∙ ap (λ (p : Params). p.cubs) c.small_plan-plan.ensures) (ap (λ (p : Params). p.disks) made ∙ ap (λ (p : Params). p.disks) c.small_plan-plan.ensures) (ap (λ (s : ControllerState). s.known.placed) c.new-controller.ensures)
