use Rattle.audit_waits.proofs.Judged.{not_believed, is_believed}
use Rattle.audit_waits.proofs.so_far.SoFar.are_others_served.Goals as goal

pub returns-then-not-believes-clause-served : goal.returns-then-not-believes-clause-served
returns-then-not-believes-clause-served c = λ orders m tells.
    not_believed c.args.plan.now.params orders c.args.self.now m c.args.tick.cub.0 c.args.before.0 _ _ tells
    c.believes-believes.ensures c.if-not-believes.true

pub returns-clause-served : goal.returns-clause-served
returns-clause-served c = λ orders m tells.
    is_believed c.args.plan.now.params orders c.args.self.now m c.args.tick.cub.0 c.args.before.0 _ _ _ tells
    c.believes-believes.ensures c.if-not-believes.false (c.are_disks_served.ensures.served orders m tells)
