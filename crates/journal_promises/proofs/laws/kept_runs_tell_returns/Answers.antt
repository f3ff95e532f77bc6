use Rattle.journal_promises.proofs.Given.{kept_runs_tell_returns}
use Rattle.journal_promises.proofs.laws.kept_runs_tell_returns.Goals as goal

pub returns : goal.returns
returns g c = kept_runs_tell_returns _
