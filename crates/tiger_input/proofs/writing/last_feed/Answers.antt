use Rattle.std.proofs.Common.{arith, sym}
use Rattle.tiger_input.proofs.LastFeeds.{none_at_end, none_before, found_at, none_in_all}
use Rattle.tiger_input.proofs.writing.last_feed.Goals as goal

pub loop-place-init : goal.loop-place-init
loop-place-init c = none_at_end c.args.text.now

pub returns-then-text-place-eq10-clause-place : goal.returns-then-text-place-eq10-clause-place
returns-then-text-place-eq10-clause-place c =
    sym (found_at c.args.text.now c.loop-place.place c.loop-place.invariant (omega (arith, c.loop-place-test.true)) c.loop-place.auto.place c.if-text-place-eq10.true)

pub loop-place-preserved : goal.loop-place-preserved
loop-place-preserved c =
    none_before c.args.text.now c.loop-place.place c.loop-place.invariant (omega (arith, c.loop-place-test.true)) c.loop-place.auto.place c.if-text-place-eq10.false

pub returns-clause-place : goal.returns-clause-place
returns-clause-place c = sym (none_in_all c.args.text.now c.loop-place.place c.loop-place.invariant c.loop-place-test.false)
