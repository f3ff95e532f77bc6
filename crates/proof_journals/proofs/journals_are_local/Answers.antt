use Rattle.proof_journals.proofs.Local.{journals_are_local}
use Rattle.proof_journals.proofs.journals_are_local.Goals as goal

pub returns : goal.returns
returns g c = journals_are_local _
