use Rattle.cub_changes.proofs.Coming.{keep_comeback}
use Rattle.cub_changes.proofs.cubs_keep_comeback.Goals as goal

pub returns : goal.returns
returns c = keep_comeback
