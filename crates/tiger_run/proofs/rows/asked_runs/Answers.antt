use Rattle.std.proofs.Common.{arith}
use Rattle.tiger_run.proofs.Samples.{asked_by_name, asked_by_number, asks_few, asks_its_name, asks_its_number, nothing_asked}
use Rattle.tiger_run.proofs.rows.asked_runs.Goals as goal

pub returns-clause-by_name : goal.returns-clause-by_name
returns-clause-by_name g c old new k run = asked_by_name _ old new k 64 (omega arith) (omega arith) run

pub returns-clause-by_number : goal.returns-clause-by_number
returns-clause-by_number g c old new k run = asked_by_number _ old new k 7 (omega arith) run

pub returns-clause-too_many_workers : goal.returns-clause-too_many_workers
returns-clause-too_many_workers g c old new k asked = let few = asks_few _ old new k 65 (omega arith) asked in omega (arith, few.1)

pub returns-clause-no_worker : goal.returns-clause-no_worker
returns-clause-no_worker g c old new k asked = let few = asks_few _ old new k 0 (omega arith) asked in omega (arith, few.0)

pub returns-clause-no_words : goal.returns-clause-no_words
returns-clause-no_words g c old new k asked = nothing_asked _ old new k asked

pub returns-clause-of_its_name : goal.returns-clause-of_its_name
returns-clause-of_its_name g c old new k asked = asks_its_name _ old new k 1 (omega arith) asked

pub returns-clause-of_its_number : goal.returns-clause-of_its_number
returns-clause-of_its_number g c old new k asked = asks_its_number _ old new k 7 (omega arith) asked
