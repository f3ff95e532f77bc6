use Rattle.std.proofs.Common.{◌==◌, refl, ◌∙◌}
use Rattle.audit_waits.proofs.Grouped.{first_tells, group_between}
use Rattle.audit_waits.proofs.groups.Groups.has_any.Goals as goal

pub returns : goal.returns
returns c =
    first_tells (λ k. k.0 == c.args.group) c.next.result c.is_some.result c.range.result c.next.new.self c.args.self.now
    c.is_some.ensures c.next.ensures.steps
    (c.range.ensures.between tt ∙ group_between c.args.group _ _ _ _ refl refl c.self.view_is)
