use Rattle.kept_worlds.proofs.runs_are_accepted.Goals as goal
use Rattle.kept_worlds.proofs.Runs.{runs-accepted}

pub returns : goal.returns
returns g c = runs-accepted _ _
