use Rattle.audit_frame.proofs.Tabled.{set_under}
use Rattle.audit_frame.proofs.tables.Marks.set.Goals as goal

pub returns : goal.returns
returns c = λ n. set_under c.args.number n c.args.mark _ _ _ c.self.view_is (c.in_ok-insert.ensures.updates.0 n)
