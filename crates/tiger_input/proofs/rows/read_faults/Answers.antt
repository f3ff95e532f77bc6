use Rattle.std.proofs.Common.{refl, arith}
use Rattle.tiger_input.specs.Samples.{here}
use Rattle.tiger_input.proofs.Samples.{some_workers}
use Rattle.tiger_input.proofs.rows.read_faults.Goals as goal

pub returns-clause-is : goal.returns-clause-is
returns-clause-is c = (here, 1, some_workers here 1 (omega arith) (omega arith), (refl, omega arith))

pub returns-clause-not_counted : goal.returns-clause-not_counted
returns-clause-not_counted c cause = let more = cause.3.1 in omega (arith, more)
