use Rattle.std.proofs.Common.{arith}
use Rattle.tiger_net.proofs.rows.absent_plans.Goals as goal

pub returns-clause-is : goal.returns-clause-is
returns-clause-is c = (omega arith, tt)

pub returns-clause-told : goal.returns-clause-told
returns-clause-told c text cause = cause.1

pub returns-clause-not_counted : goal.returns-clause-not_counted
returns-clause-not_counted c cause = let more = cause.0 in omega (arith, more)
