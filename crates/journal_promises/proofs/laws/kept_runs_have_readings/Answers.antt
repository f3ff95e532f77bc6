use Rattle.journal_promises.proofs.Readings.{kept_runs_have_readings, readings_in_log}
use Rattle.journal_promises.proofs.laws.kept_runs_have_readings.Goals as goal

pub returns-clause-journals : goal.returns-clause-journals
returns-clause-journals g c = kept_runs_have_readings _

pub returns-clause-log : goal.returns-clause-log
returns-clause-log g c = readings_in_log
