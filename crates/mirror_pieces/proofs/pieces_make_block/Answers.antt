use Rattle.mirror_pieces.proofs.Cuts.{IsCutUp-holds}
use Rattle.mirror_pieces.proofs.pieces_make_block.Goals as goal

pub returns : goal.returns
returns c = IsCutUp-holds
