use Rattle.std.proofs.Common.{◌∙◌, arith}
use Rattle.partial_view.specs.Wheel.{all_lines}
use Rattle.partial_view.specs.Work.{is_left}
use Rattle.partial_view.proofs.Rounds.{walk-of, first-done, first-next}
use Rattle.partial_view.proofs.Turns.{first-past}
use Rattle.partial_view.proofs.wheel.first_between.Goals as goal

pub returns-then-is_some-clause-first : goal.returns-then-is_some-clause-first
returns-then-is_some-clause-first c =
    first-done c.args.plan.now.params (is_left c.args.work) c.args.from c.loop-start.start c.loop-start.turn.last c.args.to (all_lines c.args.plan.now.params c.args.buckets.now) c.first_in_turn-found.result
    (walk-of c.args.plan.now.params c.args.buckets.now c.requires.wheel) c.loop-start.invariant.first c.first_in_turn-found.ensures.first c.is_some.ensures c.then-is_some.either

pub loop-start-preserved : goal.loop-start-preserved
loop-start-preserved c = record {
  first = first-next c.args.plan.now.params (is_left c.args.work) c.args.from c.loop-start.start c.loop-start.turn.last c.args.to (all_lines c.args.plan.now.params c.args.buckets.now) c.first_in_turn-found.result
      c.loop-start.invariant.first c.first_in_turn-found.ensures.first c.is_some.ensures c.if-is_some.false c.loop-start.invariant.turn.2 (omega (arith, c.if-to-turn.false));
  turn = c.of-turn.ensures.turn;
}

pub returns-clause-first : goal.returns-clause-first
returns-clause-first c =
    first-past c.args.plan.now.params (is_left c.args.work) c.loop-start.start c.args.to (all_lines c.args.plan.now.params c.args.buckets.now) (omega (arith, c.loop-start-test.false)) ∙ c.loop-start.invariant.first
