use Rattle.std.proofs.Common.{List, take, sym, subst}
use Rattle.std.proofs.lemmas.List.{take_all}
use Rattle.node_kit.specs.declared.course.Order.{Order}
use Rattle.audit_orders.specs.Stops.{TellsFinishes}
use Rattle.audit_orders.proofs.Walks.{one_more}
use Rattle.audit_orders.proofs.Stopping.{no_finish, finish_more}
use Rattle.audit_orders.proofs.stops.finishes_of.Goals as goal

pub loop-i-init : goal.loop-i-init
loop-i-init c = record { tells = no_finish _ c.new-finishes.ensures }

pub loop-i-preserved : goal.loop-i-preserved
loop-i-preserved c =
    let orders = c.args.orders.now in
    let o = c.order_at-order.result in
    record {
      tells = subst (λ (q : List Order). TellsFinishes c.add_finish.new.finishes q)
          (sym (one_more orders c.loop-i.i o c.loop-i-test.true c.order_at-order.ensures))
          (finish_more _ _ (take c.loop-i.i orders) o c.in_ok-add_finish.ensures c.loop-i.invariant.tells);
    }

pub returns : goal.returns
returns c =
    subst (λ (q : List Order). TellsFinishes c.loop-i.finishes q) (take_all c.loop-i.i c.args.orders.now c.loop-i-test.false) c.loop-i.invariant.tells
