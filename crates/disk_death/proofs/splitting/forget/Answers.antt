use Rattle.std.proofs.Common.{arith}
use Rattle.disk_death.proofs.Turns.{forgotten_are, none_forgotten}
use Rattle.disk_death.proofs.splitting.forget.Goals as goal

pub returns-then-plan-reading : goal.returns-then-plan-reading
returns-then-plan-reading c =
    forgotten_are c.args.plan.now.params c.args.reading c.args.remembered.now _ (omega (arith, c.if-plan-reading.true)) c.drop_leaving.ensures

pub returns-else-plan-reading : goal.returns-else-plan-reading
returns-else-plan-reading c = none_forgotten c.args.plan.now.params c.args.reading c.args.remembered.now (omega (arith, c.if-plan-reading.false))
