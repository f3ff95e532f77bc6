use Rattle.proof_splits.proofs.Splitting.{split_rightly}
use Rattle.proof_splits.proofs.cubs_split_rightly.Goals as goal

pub returns : goal.returns
returns c = split_rightly
