use Rattle.cub_changes.proofs.Rules.{cub_allowed}
use Rattle.cub_changes.proofs.cubs_put_out_what_they_may.Goals as goal

pub returns : goal.returns
returns c = cub_allowed
