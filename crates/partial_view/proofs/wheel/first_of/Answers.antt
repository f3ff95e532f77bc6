use Rattle.std.proofs.Common.{◌≡◌, ◌-◌, ◌∙◌, ap, drop, ℕ, arith}
use Rattle.partial_view.specs.Views.{first_of}
use Rattle.partial_view.specs.Wheel.{all_lines}
use Rattle.partial_view.proofs.Beside.{none-behind, none-below}
use Rattle.partial_view.proofs.Soonest.{of-step, of-key, of-here}
use Rattle.partial_view.proofs.wheel.first_of.Goals as goal

pub loop-i-init : goal.loop-i-init
loop-i-init c = record {
  least = omega (arith, c.bounds-from.ensures.order);
  bound = omega (arith, c.bounds-from.ensures.inside);
  best = none-behind c.args.plan.now.params c.args.buckets.now c.args.instance c.args.span c.requires.wheel c.requires.span c.bounds-from.result.1 (omega (arith, c.bounds-from.ensures.inside)) (λ i from l. c.bounds-from.ensures.behind i from (omega (arith, l)));
}

pub sooner-best-requires-clause-first : goal.sooner-best-requires-clause-first
sooner-best-requires-clause-first c = of-here c.args.plan.now.params c.args.buckets.now c.loop-i.i c.index-buckets-i.result c.requires.wheel (omega (arith, c.loop-i-test.true)) c.loop-i.invariant.bound c.index-buckets-i.is c.args.instance c.first_of.ensures

pub sooner-best-requires-clause-second : goal.sooner-best-requires-clause-second
sooner-best-requires-clause-second c = of-key c.args.plan.now.params c.args.buckets.now c.requires.wheel c.loop-i.i c.args.instance c.loop-i.invariant.best

pub loop-i-preserved : goal.loop-i-preserved
loop-i-preserved c = record {
  least = omega (arith, c.loop-i-test.true);
  bound = omega (arith, c.loop-i.invariant.bound);
  best = of-step c.args.plan.now.params c.args.buckets.now c.loop-i.i c.index-buckets-i.result c.requires.wheel (omega (arith, c.loop-i-test.true)) c.loop-i.invariant.bound c.index-buckets-i.is c.args.instance c.loop-i.invariant.best c.first_of.ensures c.sooner-best.ensures;
}

pub returns : goal.returns
returns c =
    let at : c.loop-i.i ≡ c.bounds-from.result.0 = omega (arith, c.loop-i-test.false, c.loop-i.invariant.least) in
    c.loop-i.invariant.best
    ∙ (ap (λ (n : ℕ). first_of c.args.instance (all_lines c.args.plan.now.params (drop n c.args.buckets.now))) at
    ∙ none-below c.args.plan.now.params c.args.buckets.now c.args.instance c.args.span c.requires.wheel c.requires.span c.bounds-from.result.0 (omega (arith, c.bounds-from.ensures.order, c.bounds-from.ensures.inside)) c.bounds-from.ensures.below)
