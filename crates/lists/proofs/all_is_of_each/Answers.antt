use Rattle.lists.proofs.Each.{all_of_each}
use Rattle.lists.proofs.all_is_of_each.Goals as goal

pub returns : goal.returns
returns g c = all_of_each _ _
