use Rattle.proof_links.proofs.Laws.{disks_answer_asks}
use Rattle.proof_links.proofs.disks_answer_asks.Goals as goal

pub returns : goal.returns
returns g c = disks_answer_asks _
