use Rattle.audit_waits.proofs.Judged.{not_living, is_living}
use Rattle.audit_waits.proofs.so_far.SoFar.are_own_served.Goals as goal

pub returns-then-died-clause-served : goal.returns-then-died-clause-served
returns-then-died-clause-served c = λ orders m tells.
    not_living c.args.plan.now.params orders c.args.self.now m c.args.tick.cub.0 _ _ tells c.has_died-died.ensures c.if-died.true

pub returns-clause-served : goal.returns-clause-served
returns-clause-served c = λ orders m tells.
    is_living c.args.plan.now.params orders c.args.self.now m c.args.tick.cub.0 _ _ _ tells c.has_died-died.ensures c.if-died.false
    (c.are_disks_served.ensures.served orders m tells)
