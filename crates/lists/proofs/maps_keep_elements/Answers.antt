use Rattle.lists.proofs.Elements.{maps_keep}
use Rattle.lists.proofs.maps_keep_elements.Goals as goal

pub returns : goal.returns
returns g c = maps_keep _ _
