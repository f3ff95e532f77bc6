use Rattle.lists.proofs.Cuts.{stand_somewhere}
use Rattle.lists.proofs.elements_stand_somewhere.Goals as goal

pub returns : goal.returns
returns g c = stand_somewhere _
