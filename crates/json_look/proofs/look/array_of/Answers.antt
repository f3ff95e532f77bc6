use Rattle.json_look.proofs.JsonLemmas.{array_of-seen}
use Rattle.json_look.proofs.look.array_of.Goals as goal

pub returns : goal.returns
returns c = array_of-seen c.as_array.result _ c.as_array.ensures
