use Rattle.cub_changes.proofs.Stopping.{cubs_stop}
use Rattle.cub_changes.proofs.cubs_stop_nothing.Goals as goal

pub returns : goal.returns
returns c = cubs_stop
