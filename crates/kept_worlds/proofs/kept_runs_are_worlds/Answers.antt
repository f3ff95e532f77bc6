use Rattle.kept_worlds.proofs.Worlds.{kept-worlds}
use Rattle.kept_worlds.proofs.kept_runs_are_worlds.Goals as goal

pub returns : goal.returns
returns g c = kept-worlds _
