use Rattle.std.proofs.Common.{arith}
use Rattle.partial_view.specs.Wheel.{all_lines}
use Rattle.partial_view.proofs.Rounds.{none-all, none-seen, seen-of, wheel-lent}
use Rattle.partial_view.proofs.wheel.Wheel.next_due.Goals as goal

pub returns-clause-next : goal.returns-clause-next
returns-clause-next c =
    none-seen c.self.inside.plan.params (all_lines c.self.inside.plan.params c.as_slice-bucket-items.result.now) c.args.time c.loop-bucket.least
    (seen-of c.self.inside.plan.params c.self.inside.buckets.items c.as_slice-bucket-items.result.now c.self.view_is c.as_slice-bucket-items.ensures.value)
    (none-all c.self.inside.plan.params c.args.time c.loop-bucket.least c.as_slice-bucket-items.result.now c.loop-bucket.bucket-index
    (wheel-lent c.self.inside.plan.params c.self.inside.buckets.items c.as_slice-bucket-items.result.now c.as_slice-bucket-items.ensures.value c.self.invariant.0) (omega (arith, c.loop-bucket-test.false, c.loop-bucket.auto.bucket-index-end)) c.loop-bucket.invariant.none)
