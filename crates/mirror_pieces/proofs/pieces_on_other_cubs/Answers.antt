use Rattle.mirror_pieces.proofs.Cuts.{IsSpread-holds}
use Rattle.mirror_pieces.proofs.pieces_on_other_cubs.Goals as goal

pub returns : goal.returns
returns c = IsSpread-holds
