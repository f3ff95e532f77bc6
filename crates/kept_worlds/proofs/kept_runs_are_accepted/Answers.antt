use Rattle.kept_worlds.proofs.kept_runs_are_accepted.Goals as goal
use Rattle.kept_worlds.proofs.Kept.{kept-accepted}

pub returns : goal.returns
returns g c = kept-accepted _ _ _
