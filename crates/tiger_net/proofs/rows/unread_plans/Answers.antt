use Rattle.std.proofs.Common.{arith}
use Rattle.tiger_net.proofs.rows.unread_plans.Goals as goal

pub returns-clause-is : goal.returns-clause-is
returns-clause-is c = omega arith

pub returns-clause-not_counted : goal.returns-clause-not_counted
returns-clause-not_counted c cause = omega (arith, cause)
