use Rattle.std.proofs.Common.{sym, subst}
use Rattle.std.proofs.lemmas.Bool.{both_ways}
use Rattle.run_facts.specs.Order.{Noted}
use Rattle.run_model.specs.Moments.{Moment, opening, next_moment}
use Rattle.run_claims.specs.Truths.{BeliefsAreTrue, IsTrueBelief}
use Rattle.audit_schedule.specs.Beliefs.{TellsDead}
use Rattle.audit_schedule.proofs.Dying.{beliefs_go_by_steps, none_dead}
use Rattle.audit_frame.proofs.Walking.{state_at, wrong_here, right_here, state_next, all_right}
use Rattle.audit_schedule.proofs.beliefs.first_false_belief.Goals as goal

abbrev Is : Moment → Noted → Type 0
Is m x = IsTrueBelief m x.entry.what

pub loop-i-init : goal.loop-i-init
loop-i-init c = record { tells = none_dead _ c.new-dead.ensures; right = tt }

pub returns-then-not-is_true_belief : goal.returns-then-not-is_true_belief
returns-then-not-is_true_belief c =
    let lines = c.args.log.now in
    let here = c.is_true_belief.ensures (state_at next_moment opening lines c.loop-i.i) c.loop-i.invariant.tells in
    wrong_here BeliefsAreTrue Is next_moment opening beliefs_go_by_steps lines c.loop-i.i c.line_at-line.result c.loop-i-test.true
    c.line_at-line.ensures c.loop-i.invariant.right (λ r. both_ways c.is_true_belief.result c.if-not-is_true_belief.true (here.1 r))

pub loop-i-preserved : goal.loop-i-preserved
loop-i-preserved c =
    let lines = c.args.log.now in
    let x = c.line_at-line.result in
    let now = state_at next_moment opening lines c.loop-i.i in
    let here = c.is_true_belief.ensures now c.loop-i.invariant.tells in
    record {
      tells = subst (λ (m : Moment). TellsDead c.take_death.new.dead m)
          (sym (state_next next_moment opening lines c.loop-i.i x c.loop-i-test.true c.line_at-line.ensures))
          (c.in_ok-take_death.ensures now c.loop-i.invariant.tells);
      right = right_here Is next_moment opening lines c.loop-i.i x c.loop-i-test.true c.line_at-line.ensures c.loop-i.invariant.right
          (here.0 c.if-not-is_true_belief.false);
    }

pub returns : goal.returns
returns c = all_right BeliefsAreTrue Is next_moment opening beliefs_go_by_steps c.args.log.now c.loop-i.i c.loop-i-test.false c.loop-i.invariant.right
