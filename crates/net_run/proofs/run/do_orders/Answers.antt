use Rattle.std.proofs.Common.{◌≡◌, ◌∙◌, None, Some, sym, ap, subst, arith}
use Rattle.std.specs.Prelude.{slice_get}
use Rattle.net_schedule.specs.declared.world.NetEvent.{NetEvent}
use Rattle.net_schedule.specs.Worlds.{IsPossible, fault_of}
use Rattle.net_run.specs.Runs.{Running, done, if_in}
use Rattle.net_run.specs.Sent.{StaysUnasked}
use Rattle.net_run.proofs.Steps.{at_some, if_in_some, amid_can, amid_next, amid_end, did_next, did_all}
use Rattle.net_run.proofs.run.do_orders.Goals as goal

pub act-requires-clause-possible : goal.act-requires-clause-possible
act-requires-clause-possible c =
    let e : if_in c.args.step (slice_get c.args.orders.now c.loop-order.next) ≡ Some c.in-Some.order = sym c.order_in.ensures ∙ c.in-Some.is in
    subst (λ (x : NetEvent). IsPossible c.loop-order.run.scene.world.ring x) (sym c.event_of.ensures) (amid_can c.loop-order.run.scene.world c.args.orders.now c.args.step c.loop-order.next c.in-Some.order c.loop-order.invariant.amid e).0

pub act-requires-clause-no_fault : goal.act-requires-clause-no_fault
act-requires-clause-no_fault c =
    let e : if_in c.args.step (slice_get c.args.orders.now c.loop-order.next) ≡ Some c.in-Some.order = sym c.order_in.ensures ∙ c.in-Some.is in
    subst (λ (x : NetEvent). fault_of c.loop-order.run.scene.world x ≡ None) (sym c.event_of.ensures) (amid_can c.loop-order.run.scene.world c.args.orders.now c.args.step c.loop-order.next c.in-Some.order c.loop-order.invariant.amid e).1

pub loop-order-smaller : goal.loop-order-smaller
loop-order-smaller c =
    let e : if_in c.args.step (slice_get c.args.orders.now c.loop-order.next) ≡ Some c.in-Some.order = sym c.order_in.ensures ∙ c.in-Some.is in
    let low = (at_some c.args.orders.now c.loop-order.next c.in-Some.order (if_in_some c.args.step (slice_get c.args.orders.now c.loop-order.next) c.in-Some.order e).0).1 in
    omega (arith, low, c.in_ok-next.ensures)

pub loop-order-preserved : goal.loop-order-preserved
loop-order-preserved c =
    let e : if_in c.args.step (slice_get c.args.orders.now c.loop-order.next) ≡ Some c.in-Some.order = sym c.order_in.ensures ∙ c.in-Some.is in
    let acted = c.in_ok-act.ensures.done ∙ ap (λ (x : NetEvent). done c.loop-order.run x) c.event_of.ensures in
    rw c.in_ok-next.ensures (record {
      did = did_next c.loop-order.run c.act.new.self c.args.orders.now c.args.step c.loop-order.next c.in-Some.order e acted ∙ c.loop-order.invariant.did;
      amid = amid_next c.loop-order.run.scene.world c.act.new.self.scene.world c.args.orders.now c.args.step c.loop-order.next c.in-Some.order c.loop-order.invariant.amid e
          (ap (λ (r : Running). r.scene.world.ring) c.in_ok-act.ensures.done)
          (subst (λ (x : NetEvent). StaysUnasked x c.loop-order.run.scene.world c.act.new.self.scene.world) c.event_of.ensures c.in_ok-act.ensures.new);
    })

pub returns-clause-did : goal.returns-clause-did
returns-clause-did c =
    let e : if_in c.args.step (slice_get c.args.orders.now c.loop-order.next) ≡ None = sym c.order_in.ensures ∙ c.in_default.is in
    did_all c.loop-order.run.scene.world c.loop-order.run c.args.orders.now c.args.step c.loop-order.next c.loop-order.invariant.amid e ∙ c.loop-order.invariant.did

pub returns-clause-next : goal.returns-clause-next
returns-clause-next c =
    let e : if_in c.args.step (slice_get c.args.orders.now c.loop-order.next) ≡ None = sym c.order_in.ensures ∙ c.in_default.is in
    amid_end c.loop-order.run.scene.world c.args.orders.now c.args.step c.loop-order.next c.loop-order.invariant.amid e
