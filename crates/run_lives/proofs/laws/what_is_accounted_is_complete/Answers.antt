use Rattle.run_lives.proofs.Accounted.{accounts-complete}
use Rattle.run_lives.proofs.laws.what_is_accounted_is_complete.Goals as goal

pub returns : goal.returns
returns g c = accounts-complete _ _
