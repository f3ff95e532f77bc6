use Rattle.proof_parts.proofs.PieceReads.{cubs_serve}
use Rattle.proof_parts.proofs.cubs_serve_pieces.Goals as goal

pub returns : goal.returns
returns c = cubs_serve
