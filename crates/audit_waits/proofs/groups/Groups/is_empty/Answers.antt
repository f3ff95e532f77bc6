use Rattle.std.proofs.Common.{sym, ◌∙◌}
use Rattle.audit_waits.proofs.Grouped.{nothing_in}
use Rattle.audit_waits.proofs.groups.Groups.is_empty.Goals as goal

pub returns : goal.returns
returns c = λ t. sym c.self.view_is ∙ nothing_in _ (c.is_empty.ensures.0 t)
