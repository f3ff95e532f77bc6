use Rattle.run_lives.proofs.Accounted.{accounts-write}
use Rattle.run_lives.proofs.laws.what_is_accounted_is_written_so.Goals as goal

pub returns : goal.returns
returns g c = accounts-write _ _
