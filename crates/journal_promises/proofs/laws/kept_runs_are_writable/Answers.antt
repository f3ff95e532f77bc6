use Rattle.journal_promises.proofs.Given.{kept_runs_are_writable}
use Rattle.journal_promises.proofs.laws.kept_runs_are_writable.Goals as goal

pub returns : goal.returns
returns g c = kept_runs_are_writable _
