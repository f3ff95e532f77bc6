use Rattle.kept_worlds.proofs.merges_are_accepted.Goals as goal
use Rattle.kept_worlds.proofs.Merged.{merges-accepted}

pub returns : goal.returns
returns g c = merges-accepted _ _
