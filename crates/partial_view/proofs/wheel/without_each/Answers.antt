use Rattle.std.proofs.Common.{arith}
use Rattle.partial_view.proofs.Counts.{without-first, without-next, without-all, without-count}
use Rattle.partial_view.proofs.wheel.without_each.Goals as goal

pub loop-i-init : goal.loop-i-init
loop-i-init c = without-first c.args.plan.now.params c.args.instance c.args.buckets.now.items c.requires.wheel

pub overflow_add-count : goal.overflow_add-count
overflow_add-count c =
    omega (arith, c.loop-i.invariant.fits, c.remove_instance-count.ensures.fits, c.loop-i-test.true, c.len-i-end.ensures, c.requires.wheel.count, c.args.plan.now.sound.ranges.cubs)

pub loop-i-preserved : goal.loop-i-preserved
loop-i-preserved c =
    without-next c.args.plan.now.params c.args.instance c.args.buckets.now.items c.loop-i.buckets.items c.loop-i.count c.loop-i.i c.index_mut.result.now c.remove_instance-count.new.self c.remove_instance-count.result c.loop-i.invariant
    (omega (arith, c.loop-i-test.true, c.len-i-end.ensures, c.loop-i.invariant.long)) c.index_mut.ensures.value c.remove_instance-count.ensures.left c.remove_instance-count.ensures.count c.remove_instance-count.ensures.fits

pub returns-clause-wheel : goal.returns-clause-wheel
returns-clause-wheel c = c.loop-i.invariant.wheel

pub returns-clause-count : goal.returns-clause-count
returns-clause-count c =
    without-count c.args.plan.now.params c.args.instance c.args.buckets.now.items c.loop-i.buckets.items c.loop-i.count c.loop-i.i c.loop-i.invariant c.requires.wheel
    (omega (arith, c.loop-i-test.false, c.len-i-end.ensures, c.loop-i.invariant.long))

pub returns-clause-left : goal.returns-clause-left
returns-clause-left c =
    without-all c.args.plan.now.params c.args.instance c.args.buckets.now.items c.loop-i.buckets.items c.loop-i.count c.loop-i.i c.loop-i.invariant c.requires.wheel
    (omega (arith, c.loop-i-test.false, c.len-i-end.ensures, c.loop-i.invariant.long))
