use Rattle.audit_verdict.proofs.Decided.{carried_told}
use Rattle.audit_verdict.proofs.Needed.{few_journals}
use Rattle.audit_verdict.proofs.orders.uncarried.Goals as goal

pub first_uncarried-requires : goal.first_uncarried-requires
first_uncarried-requires c = few_journals c.args.kept.now c.requires

pub returns : goal.returns
returns c = carried_told c.args.kept.now c.in_ok-found.found c.at_message.result c.requires c.in_ok-found.ensures c.at_message.ensures
