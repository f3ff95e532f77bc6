use Rattle.std.proofs.Common.{sym, ◌∙◌, arith}
use Rattle.run_claims.specs.Accounts.{ticks_in}
use Rattle.audit_frame.specs.Lines.{told_by}
use Rattle.audit_waits.proofs.Passing.{more_ticks, next_beat, none_says, some_says}
use Rattle.audit_waits.proofs.walk.Walk.pass_beat.Goals as goal

pub loop-cub-init : goal.loop-cub-init
loop-cub-init c = record { marks = c.requires.marks; stands = λ orders h. h; says = λ orders h cub low. absurd (omega (arith, low)) }

pub loop-cub-preserved : goal.loop-cub-preserved
loop-cub-preserved c =
    let p = c.args.course.now.plan.params in
    record {
      marks = c.in_ok-found.ensures.marks;
      stands = λ orders h. c.in_ok-found.ensures.stands orders (c.loop-cub.invariant.stands orders h);
      says = λ orders h.
          more_ticks p orders (ticks_in c.args.course.now) (told_by c.args.log.now) c.loop-cub.cub c.args.beat (c.loop-cub.invariant.says orders h)
          (none_says p orders (ticks_in c.args.course.now) (told_by c.args.log.now) c.loop-cub.cub c.args.beat c.in_ok-found.found
          (sym c.is_some.ensures ∙ c.if-is_some.false) (c.in_ok-found.ensures.found orders (c.loop-cub.invariant.stands orders h)));
    }

pub returns-then-is_some-clause-stands : goal.returns-then-is_some-clause-stands
returns-then-is_some-clause-stands c = λ orders h.
    next_beat c.args.course.now.plan.params orders c.args.log.now _ c.args.beat _ (c.in_ok-found.ensures.stands orders (c.loop-cub.invariant.stands orders h))

pub returns-then-is_some-clause-found : goal.returns-then-is_some-clause-found
returns-then-is_some-clause-found c = λ orders h.
    some_says c.args.course.now.plan.params orders (ticks_in c.args.course.now) (told_by c.args.log.now) c.loop-cub.cub c.args.beat c.in_ok-found.found
    (sym c.is_some.ensures ∙ c.if-is_some.true) c.loop-cub-test.true (c.in_ok-found.ensures.found orders (c.loop-cub.invariant.stands orders h))
    (c.loop-cub.invariant.says orders h)

pub returns-clause-stands : goal.returns-clause-stands
returns-clause-stands c = λ orders h.
    next_beat c.args.course.now.plan.params orders c.args.log.now _ c.args.beat _ (c.loop-cub.invariant.stands orders h)

pub returns-clause-found : goal.returns-clause-found
returns-clause-found c = λ orders h cub low. c.loop-cub.invariant.says orders h cub (omega (arith, low, c.loop-cub-test.false))
