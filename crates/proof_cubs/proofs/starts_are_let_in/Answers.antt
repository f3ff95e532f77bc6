use Rattle.proof_cubs.proofs.Letting.{let_in}
use Rattle.proof_cubs.proofs.starts_are_let_in.Goals as goal

pub returns : goal.returns
returns c = let_in
