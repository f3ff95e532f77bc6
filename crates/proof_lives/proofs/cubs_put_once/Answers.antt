use Rattle.proof_lives.proofs.Once.{put_once}
use Rattle.proof_lives.proofs.cubs_put_once.Goals as goal

pub returns : goal.returns
returns c = put_once
