use Rattle.proof_links.proofs.Laws.{messages_come_in_order}
use Rattle.proof_links.proofs.messages_come_in_order.Goals as goal

pub returns : goal.returns
returns g c = messages_come_in_order _
