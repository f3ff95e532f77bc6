use Rattle.audit_blocks.proofs.Grouping.{group_pushed}
use Rattle.audit_blocks.proofs.groups.Groups.push.Goals as goal

pub returns : goal.returns
returns g c = λ n. group_pushed c.args.number n c.args.item _ _ _ _ _ _ c.self.view_is c.take-group.ensures.taken
    (c.take-group.ensures.rest n) c.in_ok-push.ensures.ok (c.in_ok-insert.ensures.updates.0 n)
