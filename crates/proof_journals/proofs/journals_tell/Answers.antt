use Rattle.proof_journals.proofs.Telling.{journals_tell}
use Rattle.proof_journals.proofs.journals_tell.Goals as goal

pub returns : goal.returns
returns g c = journals_tell _
