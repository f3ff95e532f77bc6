use Rattle.proof_splits.proofs.Standing.{keeps_pieces}
use Rattle.proof_splits.proofs.cubs_keep_pieces.Goals as goal

pub returns : goal.returns
returns c = λ p lives d plan formed small. keeps_pieces p d plan.ranges.pieces.0 (lives.count d) (lives.input d) (formed d small)
