use Rattle.std.proofs.Common.{subst}
use Rattle.std.proofs.lemmas.Bool.{both_ways}
use Rattle.audit_frame.specs.declared.lines.Line.{Line}
use Rattle.audit_frame.proofs.Deciding.{each_at}
use Rattle.audit_frame.proofs.Walking.{wrong_here, right_here, all_right}
use Rattle.audit_verdict.specs.Clocks.{IsOfBeats, ShowClocks}
use Rattle.audit_verdict.proofs.Readings.{IsShown, clocks_go_by_steps, no_state}
use Rattle.audit_verdict.proofs.clocks.first_false_reading.Goals as goal

pub loop-i-init : goal.loop-i-init
loop-i-init c = record { right = tt }

pub shows_clock-requires-clause-beat : goal.shows_clock-requires-clause-beat
shows_clock-requires-clause-beat c =
    let x = c.line_at.result in
    subst (λ (l : Line). IsOfBeats l) (c.line_at.ensures x) (each_at IsOfBeats c.args.log.now c.loop-i.i x c.requires.beats c.loop-i-test.true)

pub returns-then-not-shows_clock : goal.returns-then-not-shows_clock
returns-then-not-shows_clock c =
    let course = c.args.course.now in
    let lines = c.args.log.now in
    wrong_here (ShowClocks course) (IsShown course) no_state tt (clocks_go_by_steps course) lines c.loop-i.i c.line_at.result
    c.loop-i-test.true c.line_at.ensures c.loop-i.invariant.right
    (λ r. both_ways c.shows_clock.result c.if-not-shows_clock.true (c.shows_clock.ensures.1 r))

pub loop-i-preserved : goal.loop-i-preserved
loop-i-preserved c =
    let course = c.args.course.now in
    record {
      right = right_here (IsShown course) no_state tt c.args.log.now c.loop-i.i c.line_at.result c.loop-i-test.true c.line_at.ensures
          c.loop-i.invariant.right (c.shows_clock.ensures.0 c.if-not-shows_clock.false);
    }

pub returns : goal.returns
returns c =
    let course = c.args.course.now in
    all_right (ShowClocks course) (IsShown course) no_state tt (clocks_go_by_steps course) c.args.log.now c.loop-i.i c.loop-i-test.false
    c.loop-i.invariant.right
