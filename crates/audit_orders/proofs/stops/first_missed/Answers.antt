use Rattle.std.proofs.Common.{List, take, sym, subst, ◌∙◌}
use Rattle.std.proofs.lemmas.List.{take_all}
use Rattle.node_kit.specs.declared.course.Order.{Order}
use Rattle.audit_orders.specs.Stops.{NoneIsMissed}
use Rattle.audit_orders.proofs.Walks.{one_more}
use Rattle.audit_orders.proofs.Stopping.{no_order, none_more, order_there}
use Rattle.audit_orders.proofs.stops.first_missed.Goals as goal

pub loop-i-init : goal.loop-i-init
loop-i-init c = record { none = no_order c.args.course.now c.args.places.now c.args.gone.now }

pub returns-then-is_missed : goal.returns-then-is_missed
returns-then-is_missed c = (
  c.order_at-order.result,
  order_there c.args.orders.now c.loop-i.i c.order_at-order.result c.loop-i-test.true c.order_at-order.ensures,
  sym c.is_missed.ensures ∙ c.if-is_missed.true,
  c.loop-i.invariant.none,
)

pub loop-i-preserved : goal.loop-i-preserved
loop-i-preserved c =
    let orders = c.args.orders.now in
    let o = c.order_at-order.result in
    record {
      none = subst (λ (q : List Order). NoneIsMissed c.args.course.now c.args.places.now c.args.gone.now q)
          (sym (one_more orders c.loop-i.i o c.loop-i-test.true c.order_at-order.ensures))
          (none_more c.args.course.now c.args.places.now c.args.gone.now (take c.loop-i.i orders) o
          (sym c.is_missed.ensures ∙ c.if-is_missed.false) c.loop-i.invariant.none);
    }

pub returns : goal.returns
returns c =
    subst (λ (q : List Order). NoneIsMissed c.args.course.now c.args.places.now c.args.gone.now q)
    (take_all c.loop-i.i c.args.orders.now c.loop-i-test.false) c.loop-i.invariant.none
