use Rattle.tiger_run.proofs.Samples.{run_of}
use Rattle.tiger_run.proofs.rows.what_asked_runs_are.Goals as goal

pub returns-clause-claims : goal.returns-clause-claims
returns-clause-claims g c old new words k asked = (run_of _ old new k words asked).2.claims

pub returns-clause-belief_in_time : goal.returns-clause-belief_in_time
returns-clause-belief_in_time g c old new words k asked = (run_of _ old new k words asked).2.belief_in_time

pub returns-clause-only : goal.returns-clause-only
returns-clause-only g c old new words k asked = let run = run_of _ old new k words asked in (run.0, run.1, run.2.only)

pub returns-clause-world : goal.returns-clause-world
returns-clause-world g c old new words k asked = let run = run_of _ old new k words asked in (run.1, run.2.world)
