use Rattle.cub_changes.proofs.Causing.{have_causes}
use Rattle.cub_changes.proofs.outputs_have_causes.Goals as goal

pub returns : goal.returns
returns c = have_causes
