use Rattle.proof_ring.proofs.Histories.{histories_serve_their_blocks}
use Rattle.proof_ring.proofs.histories_serve_their_blocks.Goals as goal

pub returns : goal.returns
returns g c = histories_serve_their_blocks _
