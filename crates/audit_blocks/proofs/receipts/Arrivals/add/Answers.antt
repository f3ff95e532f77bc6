use Rattle.audit_blocks.proofs.Keyed.{came_added}
use Rattle.audit_blocks.proofs.receipts.Arrivals.add.Goals as goal

pub returns : goal.returns
returns c = λ i n k. came_added c.args.receipt.want.instance.0 c.args.receipt.want.visit c.args.piece i n k c.args.receipt
    _ _ _ _ _ c.self.view_is c.get.ensures c.again-came.ensures (c.in_ok-insert.ensures.updates.0 ((i, n), k))
