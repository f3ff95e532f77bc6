use Rattle.cub_changes.proofs.Rules.{cub_stays}
use Rattle.cub_changes.proofs.cubs_stay.Goals as goal

pub returns : goal.returns
returns c = cub_stays
