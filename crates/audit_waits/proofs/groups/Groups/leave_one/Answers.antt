use Rattle.audit_waits.proofs.Grouped.{pair_left}
use Rattle.audit_waits.proofs.groups.Groups.leave_one.Goals as goal

pub returns : goal.returns
returns c = λ g n. pair_left c.args.group c.args.number g n _ _ _ c.self.view_is (c.remove.ensures.updates.0 (g, n))
