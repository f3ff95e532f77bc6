use Rattle.ring_world.proofs.accepted_lists_are_runs.Goals as goal
use Rattle.ring_world.proofs.Runs.{accepted-runs}

pub returns : goal.returns
returns g c = accepted-runs _ _ _
