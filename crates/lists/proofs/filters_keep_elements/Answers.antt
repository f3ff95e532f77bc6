use Rattle.lists.proofs.Elements.{filters_keep}
use Rattle.lists.proofs.filters_keep_elements.Goals as goal

pub returns : goal.returns
returns g c = filters_keep _
