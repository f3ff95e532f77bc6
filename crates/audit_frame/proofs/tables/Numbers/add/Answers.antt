use Rattle.audit_frame.proofs.Tabled.{number_added}
use Rattle.audit_frame.proofs.tables.Numbers.add.Goals as goal

pub returns : goal.returns
returns c = λ n. number_added c.args.number n _ _ _ c.self.view_is (c.in_ok-insert.ensures.updates.0 n)
