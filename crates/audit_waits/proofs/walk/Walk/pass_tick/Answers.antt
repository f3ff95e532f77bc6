use Rattle.std.proofs.Common.{◌+◌}
use Rattle.run_claims.specs.Accounts.{ticks_in}
use Rattle.audit_waits.proofs.Passing.{next_cub, stands_still, tick_says}
use Rattle.audit_waits.proofs.walk.Walk.pass_tick.Goals as goal

pub returns-clause-stands : goal.returns-clause-stands
returns-clause-stands c = λ orders h.
    stands_still c.args.course.now.plan.params orders c.args.log.now _ _ c.args.beat (c.args.cub.0 + 1) c.judge.ensures.so_far c.judge.ensures.place
    (next_cub c.args.course.now.plan.params orders c.args.log.now _ c.args.beat c.args.cub.0 (c.in_ok-pass_entries.ensures.stands orders h))

pub returns-clause-found : goal.returns-clause-found
returns-clause-found c = λ orders h.
    tick_says c.args.course.now.plan.params orders (ticks_in c.args.course.now) c.args.log.now _ c.args.beat c.args.cub.0 _
    (c.in_ok-pass_entries.ensures.stands orders h) (c.in_ok-pass_entries.ensures.all orders h) (λ m tells. c.judge.ensures.found orders m tells)
