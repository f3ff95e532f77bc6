use Rattle.std.proofs.Common.{refl, arith}
use Rattle.tiger_input.specs.Samples.{here}
use Rattle.tiger_input.proofs.Samples.{some_workers, make_is_no_run}
use Rattle.tiger_input.proofs.rows.absent_scenario.Goals as goal

pub returns-clause-is : goal.returns-clause-is
returns-clause-is c = (here, 1, some_workers here 1 (omega arith) (omega arith), (refl, omega arith, tt))

pub returns-clause-told : goal.returns-clause-told
returns-clause-told c text cause = cause.3.2

pub returns-clause-not_counted : goal.returns-clause-not_counted
returns-clause-not_counted c cause = let more = cause.3.1 in omega (arith, more)

pub returns-clause-two_calls : goal.returns-clause-two_calls
returns-clause-two_calls c cause = let calls = cause.3.0 in omega (arith, calls)

pub returns-clause-not_named : goal.returns-clause-not_named
returns-clause-not_named c cause = make_is_no_run 7 cause.1 cause.0 cause.2
