use Rattle.proof_worlds.proofs.Rings.{accepted_lists_are_rings}
use Rattle.proof_worlds.proofs.accepted_lists_are_rings.Goals as goal

pub returns : goal.returns
returns g c = accepted_lists_are_rings _
