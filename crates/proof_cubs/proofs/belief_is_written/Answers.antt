use Rattle.proof_cubs.proofs.Believing.{belief}
use Rattle.proof_cubs.proofs.belief_is_written.Goals as goal

pub returns : goal.returns
returns c = belief
