use Rattle.std.proofs.Common.{sym, subst}
use Rattle.std.proofs.lemmas.Bool.{both_ways}
use Rattle.slot_plan.specs.declared.params.Params.{Params}
use Rattle.run_facts.specs.Order.{Noted, beat_of}
use Rattle.run_model.specs.Moments.{Moment, opening, next_moment}
use Rattle.run_claims.specs.Returns.{NobodyComesBack, BringsNobodyBack}
use Rattle.audit_schedule.specs.Stops.{TellsStops}
use Rattle.audit_schedule.proofs.Stopping.{returns_go_by_steps, no_stops}
use Rattle.audit_frame.proofs.Walking.{state_at, wrong_here, right_here, state_next, all_right}
use Rattle.audit_schedule.proofs.stops.first_return.Goals as goal

abbrev Is : Params → Moment → Noted → Type 0
Is p m x = BringsNobodyBack p m (beat_of x) x.entry.what

pub loop-i-init : goal.loop-i-init
loop-i-init c = record { tells = no_stops _ c.new-stops.ensures; right = tt }

pub returns-then-not-brings_nobody_back : goal.returns-then-not-brings_nobody_back
returns-then-not-brings_nobody_back c =
    let p = c.args.plan.now.params in
    let lines = c.args.log.now in
    let here = c.brings_nobody_back.ensures (state_at next_moment opening lines c.loop-i.i) c.loop-i.invariant.tells in
    wrong_here (NobodyComesBack p) (Is p) next_moment opening (returns_go_by_steps p) lines c.loop-i.i c.line_at-line.result c.loop-i-test.true
    c.line_at-line.ensures c.loop-i.invariant.right (λ r. both_ways c.brings_nobody_back.result c.if-not-brings_nobody_back.true (here.1 r))

pub loop-i-preserved : goal.loop-i-preserved
loop-i-preserved c =
    let p = c.args.plan.now.params in
    let lines = c.args.log.now in
    let x = c.line_at-line.result in
    let now = state_at next_moment opening lines c.loop-i.i in
    let here = c.brings_nobody_back.ensures now c.loop-i.invariant.tells in
    record {
      tells = subst (λ (m : Moment). TellsStops c.take_stop.new.stops m)
          (sym (state_next next_moment opening lines c.loop-i.i x c.loop-i-test.true c.line_at-line.ensures))
          (c.in_ok-take_stop.ensures now c.loop-i.invariant.tells);
      right = right_here (Is p) next_moment opening lines c.loop-i.i x c.loop-i-test.true c.line_at-line.ensures c.loop-i.invariant.right
          (here.0 c.if-not-brings_nobody_back.false);
    }

pub returns : goal.returns
returns c =
    let p = c.args.plan.now.params in
    all_right (NobodyComesBack p) (Is p) next_moment opening (returns_go_by_steps p) c.args.log.now c.loop-i.i c.loop-i-test.false c.loop-i.invariant.right
