use Rattle.std.proofs.Common.{◌≤◌, ◌∙◌, sym, ap, arith}
use Rattle.net_read.specs.Meaning.{formed}
use Rattle.net_read.proofs.Loop.{IsLeft-more, IsLeft-none, IsLeft-all}
use Rattle.net_read.proofs.orders.orders_from.Goals as goal

pub returns-in_default : goal.returns-in_default
returns-in_default c =
    ap (λ o. formed o) (IsLeft-none c.args.ring c.args.steps c.loop-value.latest c.loop-value.asks c.loop-value.orders.items c.args.values.now c.loop-value.value-index c.value-item.result (omega arith) c.value-item.is (sym c.order_in.ensures ∙ c.in_default.is) c.loop-value.invariant.left)

pub returns : goal.returns
returns c =
    ap (λ o. formed o) (IsLeft-all c.args.ring c.args.steps c.loop-value.latest c.loop-value.asks c.loop-value.orders.items c.args.values.now c.loop-value.value-index (omega arith) c.loop-value.invariant.left)

pub loop-value-preserved : goal.loop-value-preserved
loop-value-preserved c =
    let front = c.loop-value.orders.items in
    let order = c.in-Some.order in
    let one : c.asks-asks.result ≤ 1 = c.asks-asks.ensures.few in
    record {
      few = omega (arith, c.loop-value.invariant.few, one);
      left =
          rw (c.in_ok-push.ensures.items, c.step-latest.ensures, c.asks-asks.ensures.is)
          (IsLeft-more c.args.ring c.args.steps c.loop-value.latest c.loop-value.asks front c.args.values.now c.loop-value.value-index c.value-item.result order (omega arith) c.value-item.is (sym c.order_in.ensures ∙ c.in-Some.is) c.loop-value.invariant.left);
    }
