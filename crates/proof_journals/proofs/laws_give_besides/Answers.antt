use Rattle.proof_journals.proofs.Besides.{laws_give_besides}
use Rattle.proof_journals.proofs.laws_give_besides.Goals as goal

pub returns : goal.returns
returns g c = laws_give_besides _
