use Rattle.audit_frame.proofs.Tabled.{pair_added}
use Rattle.audit_orders.proofs.tables.Finishes.add.Goals as goal

pub returns : goal.returns
returns c = λ m n. pair_added c.args.v.0 c.args.beat m n _ _ _ c.self.view_is (c.in_ok-insert.ensures.updates.0 (m, n))
