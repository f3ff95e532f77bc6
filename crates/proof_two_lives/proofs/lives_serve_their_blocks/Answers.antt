use Rattle.proof_two_lives.proofs.Gathering.{parts}
use Rattle.proof_two_lives.proofs.lives_serve_their_blocks.Goals as goal

pub returns : goal.returns
returns c = λ p catalogue first later q o w u here there more plan given. parts given plan
