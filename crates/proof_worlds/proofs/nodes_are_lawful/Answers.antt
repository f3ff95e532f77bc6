use Rattle.proof_worlds.proofs.Lawful.{nodes_are_lawful}
use Rattle.proof_worlds.proofs.nodes_are_lawful.Goals as goal

pub returns : goal.returns
returns g c = nodes_are_lawful _
