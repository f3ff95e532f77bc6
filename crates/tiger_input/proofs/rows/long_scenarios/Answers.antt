use Rattle.std.proofs.Common.{refl, arith}
use Rattle.tiger_input.specs.Samples.{here}
use Rattle.tiger_input.proofs.Samples.{some_workers}
use Rattle.tiger_input.proofs.rows.long_scenarios.Goals as goal

pub returns-clause-is : goal.returns-clause-is
returns-clause-is c = (here, 1, some_workers here 1 (omega arith) (omega arith), (refl, (refl, omega arith, tt)))

pub returns-clause-other_limit : goal.returns-clause-other_limit
returns-clause-other_limit c cause = let limit = cause.3.1.0 in omega (arith, limit)

pub returns-clause-not_longer : goal.returns-clause-not_longer
returns-clause-not_longer c cause = let longer = cause.3.1.1 in omega (arith, longer)

pub returns-clause-told_shorter : goal.returns-clause-told_shorter
returns-clause-told_shorter c cause = let has = cause.3.1.2 in omega (arith, has)
