use Rattle.proof_journals.proofs.Recorded.{rings_are_recorded}
use Rattle.proof_journals.proofs.rings_are_recorded.Goals as goal

pub returns : goal.returns
returns g c = rings_are_recorded _
