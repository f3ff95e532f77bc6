use Rattle.lists.proofs.Elements.{appends_keep}
use Rattle.lists.proofs.appends_keep_elements.Goals as goal

pub returns : goal.returns
returns g c = appends_keep _
