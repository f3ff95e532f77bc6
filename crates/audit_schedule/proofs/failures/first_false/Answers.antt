use Rattle.std.proofs.Common.{List, sym, subst}
use Rattle.std.proofs.lemmas.Bool.{both_ways}
use Rattle.slot_plan.specs.declared.params.Params.{Params}
use Rattle.node_kit.specs.declared.course.ReadFault.{ReadFault}
use Rattle.run_facts.specs.Order.{Noted}
use Rattle.run_model.specs.Moments.{Moment, opening, next_moment}
use Rattle.run_claims.specs.Truths.{FailuresAreTrue, IsTrueFailure}
use Rattle.audit_schedule.specs.Failures.{TellsAsks}
use Rattle.audit_schedule.proofs.Failing.{failures_go_by_steps, no_asks}
use Rattle.audit_frame.proofs.Walking.{state_at, wrong_here, right_here, state_next, all_right}
use Rattle.audit_schedule.proofs.failures.first_false.Goals as goal

abbrev Is : Params → List ReadFault → Moment → Noted → Type 0
Is p faults m x = IsTrueFailure p faults m x.entry.what

pub loop-i-init : goal.loop-i-init
loop-i-init c = record { tells = no_asks c.args.plan.now.params c.args.faults.now _ c.new-asks.ensures; right = tt }

pub returns-then-not-is_true_failure : goal.returns-then-not-is_true_failure
returns-then-not-is_true_failure c =
    let p = c.args.plan.now.params in
    let faults = c.args.faults.now in
    let lines = c.args.log.now in
    let here = c.is_true_failure.ensures p faults (state_at next_moment opening lines c.loop-i.i) c.loop-i.invariant.tells in
    wrong_here (FailuresAreTrue p faults) (Is p faults) next_moment opening (failures_go_by_steps p faults) lines c.loop-i.i c.line_at-line.result
    c.loop-i-test.true c.line_at-line.ensures c.loop-i.invariant.right
    (λ r. both_ways c.is_true_failure.result c.if-not-is_true_failure.true (here.1 r))

pub loop-i-preserved : goal.loop-i-preserved
loop-i-preserved c =
    let p = c.args.plan.now.params in
    let faults = c.args.faults.now in
    let lines = c.args.log.now in
    let x = c.line_at-line.result in
    let now = state_at next_moment opening lines c.loop-i.i in
    let here = c.is_true_failure.ensures p faults now c.loop-i.invariant.tells in
    record {
      tells = subst (λ (m : Moment). TellsAsks p faults c.take_got.new.asks m)
          (sym (state_next next_moment opening lines c.loop-i.i x c.loop-i-test.true c.line_at-line.ensures))
          (c.in_ok-take_got.ensures now c.loop-i.invariant.tells);
      right = right_here (Is p faults) next_moment opening lines c.loop-i.i x c.loop-i-test.true c.line_at-line.ensures
          c.loop-i.invariant.right (here.0 c.if-not-is_true_failure.false);
    }

pub returns : goal.returns
returns c =
    let p = c.args.plan.now.params in
    let faults = c.args.faults.now in
    all_right (FailuresAreTrue p faults) (Is p faults) next_moment opening (failures_go_by_steps p faults) c.args.log.now c.loop-i.i
    c.loop-i-test.false c.loop-i.invariant.right
