use Rattle.cub_changes.proofs.Beliefs.{keep_belief}
use Rattle.cub_changes.proofs.cubs_keep_belief.Goals as goal

pub returns : goal.returns
returns c = keep_belief
