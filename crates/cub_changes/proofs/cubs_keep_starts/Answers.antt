use Rattle.cub_changes.proofs.Listing.{keep_starts}
use Rattle.cub_changes.proofs.cubs_keep_starts.Goals as goal

pub returns : goal.returns
returns c = keep_starts
