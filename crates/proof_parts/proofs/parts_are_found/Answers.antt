use Rattle.proof_parts.proofs.Found.{found}
use Rattle.proof_parts.proofs.parts_are_found.Goals as goal

pub returns : goal.returns
returns c = found
