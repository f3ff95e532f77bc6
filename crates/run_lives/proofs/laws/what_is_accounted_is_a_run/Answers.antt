use Rattle.run_lives.proofs.Accounted.{accounts-run}
use Rattle.run_lives.proofs.laws.what_is_accounted_is_a_run.Goals as goal

pub returns : goal.returns
returns g c = accounts-run _ _
