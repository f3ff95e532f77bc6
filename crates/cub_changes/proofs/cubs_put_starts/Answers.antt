use Rattle.cub_changes.proofs.Putting.{put_starts}
use Rattle.cub_changes.proofs.cubs_put_starts.Goals as goal

pub returns : goal.returns
returns c = put_starts
