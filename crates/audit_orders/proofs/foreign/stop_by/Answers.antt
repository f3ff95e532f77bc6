use Rattle.audit_orders.proofs.Following.{other_says}
use Rattle.audit_orders.proofs.foreign.stop_by.Goals as goal

pub returns : goal.returns
returns c = other_says c.args.node.0 c.args.controller.0 c.args.journal.now c.first_gone.result c.if-node-controller.false c.first_gone.ensures
