use Rattle.std.proofs.Common.{ap}
use Rattle.audit_frame.specs.Tables.{AskNumbers, has_ask}
use Rattle.audit_schedule.proofs.Ordered.{asks_next, asks_end}
use Rattle.audit_schedule.proofs.asks.asks_of.Goals as goal

pub loop-order-init : goal.loop-order-init
loop-order-init c = record { has = λ a. ap (λ (rows : AskNumbers). has_ask a rows) c.new-asks.ensures }

pub loop-order-preserved : goal.loop-order-preserved
loop-order-preserved c = record {
  has = λ a. asks_next c.loop-order.order-index c.args.orders.now _ a _ _ c.loop-order-test.true (c.in_ok-add_ask.ensures a)
      (c.loop-order.invariant.has a);
}

pub returns : goal.returns
returns c = asks_end c.loop-order.order-index c.args.orders.now _ c.loop-order-test.false c.loop-order.invariant.has
