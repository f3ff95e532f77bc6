use Rattle.proof_links.proofs.Laws.{cubs_are_told_in_order}
use Rattle.proof_links.proofs.cubs_are_told_in_order.Goals as goal

pub returns : goal.returns
returns g c = cubs_are_told_in_order _
