use Rattle.std.proofs.Common.{arith}
use Rattle.partial_view.proofs.Soonest.{behind-init, behind-step, behind-key, behind-here}
use Rattle.partial_view.proofs.wheel.soonest_behind.Goals as goal

pub loop-i-init : goal.loop-i-init
loop-i-init c = record { bound = omega arith; best = behind-init c.args.plan.now.params c.args.buckets.now c.args.key }

pub sooner-best-requires-clause-first : goal.sooner-best-requires-clause-first
sooner-best-requires-clause-first c = behind-here c.args.plan.now.params c.args.buckets.now c.loop-i.i c.index-buckets-i.result c.requires.wheel c.loop-i-test.true c.loop-i.invariant.bound c.index-buckets-i.is c.args.key c.after.ensures

pub sooner-best-requires-clause-second : goal.sooner-best-requires-clause-second
sooner-best-requires-clause-second c = behind-key c.args.plan.now.params c.args.buckets.now c.requires.wheel c.loop-i.i c.args.key c.loop-i.invariant.best

pub loop-i-preserved : goal.loop-i-preserved
loop-i-preserved c = record {
  bound = omega (arith, c.loop-i.invariant.bound);
  best = behind-step c.args.plan.now.params c.args.buckets.now c.loop-i.i c.index-buckets-i.result c.requires.wheel c.loop-i-test.true c.loop-i.invariant.bound c.index-buckets-i.is c.args.key c.loop-i.invariant.best c.after.ensures c.sooner-best.ensures;
}

pub returns-clause-key : goal.returns-clause-key
returns-clause-key c = behind-key c.args.plan.now.params c.args.buckets.now c.requires.wheel c.loop-i.i c.args.key c.loop-i.invariant.best
