use Rattle.ring_world.proofs.plans_are_places.Goals as goal
use Rattle.ring_world.proofs.Places.{plans-places}

pub returns : goal.returns
returns c = plans-places
