use Rattle.proof_answer.proofs.catalogues_are_one.Goals as goal
use Rattle.proof_answer.proofs.Catalogues.{catalogues-are-one}

pub returns : goal.returns
returns c = catalogues-are-one
