use Rattle.std.proofs.Common.{refl, arith}
use Rattle.tiger_net.proofs.rows.long_plans.Goals as goal

pub returns-clause-is : goal.returns-clause-is
returns-clause-is c = (refl, (omega arith, tt))

pub returns-clause-not_longer : goal.returns-clause-not_longer
returns-clause-not_longer c cause = let longer = cause.1.0 in omega (arith, longer)

pub returns-clause-other_limit : goal.returns-clause-other_limit
returns-clause-other_limit c cause = let limit = cause.0 in omega (arith, limit)

pub returns-clause-told_shorter : goal.returns-clause-told_shorter
returns-clause-told_shorter c cause = let has = cause.1.1 in omega (arith, has)
