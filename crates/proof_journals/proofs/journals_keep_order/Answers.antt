use Rattle.proof_journals.proofs.Keeping.{journals_keep_order}
use Rattle.proof_journals.proofs.journals_keep_order.Goals as goal

pub returns : goal.returns
returns g c = journals_keep_order _
