use Rattle.std.proofs.Common.{ap, ◌∙◌}
use Rattle.std.proofs.lemmas.Bool.{false≢true}
use Rattle.std.proofs.lemmas.List.{take_all}
use Rattle.std.specs.List.{list_any}
use Rattle.node_kit.specs.declared.course.Order.{Order}
use Rattle.audit_waits.specs.Starts.{begins_at}
use Rattle.audit_waits.proofs.Ordered.{asked_next}
use Rattle.audit_waits.proofs.starts.asked_by.Goals as goal

pub loop-order-init : goal.loop-order-init
loop-order-init c = record { marks = λ disk h. absurd (false≢true h) }

pub loop-order-preserved : goal.loop-order-preserved
loop-order-preserved c = record {
  marks = λ disk. asked_next c.loop-order.order-index c.args.orders.now _ _ _ disk c.loop-order-test.true (c.ask.ensures disk)
      (c.loop-order.invariant.marks disk);
}

pub returns : goal.returns
returns c = λ disk h. c.loop-order.invariant.marks disk
    (ap (list_any (λ (o : Order). begins_at disk o.what)) (take_all c.loop-order.order-index c.args.orders.now c.loop-order-test.false) ∙ h)
