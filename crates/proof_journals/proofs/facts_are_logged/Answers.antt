use Rattle.proof_journals.proofs.Logging.{facts_are_logged}
use Rattle.proof_journals.proofs.facts_are_logged.Goals as goal

pub returns : goal.returns
returns g c = facts_are_logged _
