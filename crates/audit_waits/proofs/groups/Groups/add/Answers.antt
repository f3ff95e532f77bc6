use Rattle.audit_frame.proofs.Tabled.{pair_added}
use Rattle.audit_waits.proofs.groups.Groups.add.Goals as goal

pub returns : goal.returns
returns c = λ g n. pair_added c.args.group c.args.number g n _ _ _ c.self.view_is (c.in_ok-insert.ensures.updates.0 (g, n))
