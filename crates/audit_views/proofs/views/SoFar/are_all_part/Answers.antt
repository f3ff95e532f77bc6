use Rattle.std.proofs.Common.{arith}
use Rattle.audit_views.proofs.Judging.{one_fails, one_more, all_before}
use Rattle.audit_views.proofs.views.SoFar.are_all_part.Goals as goal

pub loop-at-init : goal.loop-at-init
loop-at-init c = record { up = omega arith; part = λ m h j d up down. absurd (omega (arith, up, down)) }

pub returns-then-not-are_part : goal.returns-then-not-are_part
returns-then-not-are_part c = λ m h.
    one_fails c.args.plan.now.params m c.args.self.now.stops.items c.args.from c.args.to c.loop-at.at c.stop_at-stop.result c.are_part.result
    c.stop_at-stop.ensures c.if-not-are_part.true (c.are_part.ensures m h) c.loop-at.invariant.up c.loop-at-test.true

pub loop-at-preserved : goal.loop-at-preserved
loop-at-preserved c =
    let up = c.loop-at.invariant.up in
    record {
      up = omega (arith, up);
      part = λ m h. one_more c.args.plan.now.params m c.args.self.now.stops.items c.args.from c.loop-at.at c.stop_at-stop.result
          c.are_part.result c.stop_at-stop.ensures c.if-not-are_part.false (c.are_part.ensures m h) (c.loop-at.invariant.part m h);
    }

pub returns : goal.returns
returns c = λ m h.
    all_before c.args.plan.now.params m c.args.self.now.stops.items c.args.from c.args.to c.loop-at.at c.loop-at-test.false
    (c.loop-at.invariant.part m h)
