use Rattle.audit_frame.proofs.Tabled.{set_under}
use Rattle.audit_orders.proofs.tables.Places.set.Goals as goal

pub returns : goal.returns
returns c = λ n. set_under c.args.v.0 n c.args.known _ _ _ c.self.view_is (c.in_ok-insert.ensures.updates.0 n)
