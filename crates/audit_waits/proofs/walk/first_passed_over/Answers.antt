use Rattle.std.proofs.Common.{sym, ◌∙◌, arith}
use Rattle.run_claims.specs.Accounts.{ticks_in}
use Rattle.audit_frame.specs.Lines.{told_by}
use Rattle.audit_waits.proofs.Passing.{all_say, beat_none, first_says, more_beats}
use Rattle.audit_waits.proofs.walk.first_passed_over.Goals as goal

pub loop-beat-init : goal.loop-beat-init
loop-beat-init c = record { marks = c.in_ok-walk.ensures.marks; stands = c.in_ok-walk.ensures.stands c.args.log.now; says = λ b low. absurd (omega (arith, low)) }

pub loop-beat-preserved : goal.loop-beat-preserved
loop-beat-preserved c =
    let p = c.args.course.now.plan.params in
    let orders = c.args.orders.now in
    record {
      marks = c.in_ok-found.ensures.marks;
      stands = c.in_ok-found.ensures.stands orders c.loop-beat.invariant.stands;
      says = more_beats p orders (ticks_in c.args.course.now) (told_by c.args.log.now) c.loop-beat.beat c.loop-beat.invariant.says
          (beat_none p orders (ticks_in c.args.course.now) (told_by c.args.log.now) c.loop-beat.beat c.in_ok-found.found
          (sym c.is_some.ensures ∙ c.if-is_some.false) (c.in_ok-found.ensures.found orders c.loop-beat.invariant.stands));
    }

pub returns-then-is_some : goal.returns-then-is_some
returns-then-is_some c =
    first_says c.args.course.now.plan.params c.args.orders.now (ticks_in c.args.course.now) (told_by c.args.log.now) c.loop-beat.beat c.in_ok-found.found
    (sym c.is_some.ensures ∙ c.if-is_some.true) (c.in_ok-found.ensures.found c.args.orders.now c.loop-beat.invariant.stands) c.loop-beat.invariant.says

pub returns : goal.returns
returns c =
    all_say c.args.course.now.plan.params c.args.orders.now (ticks_in c.args.course.now) (told_by c.args.log.now) c.args.course.now.beats
    (λ cub beat reading ticks. ticks.0)
    (λ b low. c.loop-beat.invariant.says b (omega (arith, low, c.loop-beat-test.false)))
