use Rattle.audit_blocks.proofs.Grouping.{group_removed}
use Rattle.audit_blocks.proofs.groups.Groups.take.Goals as goal

pub returns-clause-rest : goal.returns-clause-rest
returns-clause-rest g c = λ n. group_removed c.args.number n _ _ _ c.self.view_is (c.remove.ensures.updates.0 n)
