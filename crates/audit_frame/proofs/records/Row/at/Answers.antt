use Rattle.std.proofs.Common.{◌∙◌}
use Rattle.audit_frame.proofs.Kept.{between_visits}
use Rattle.audit_frame.proofs.records.Row.at.Goals as goal

pub returns : goal.returns
returns c =
    c.range.ensures.between tt
    ∙ between_visits c.args.number c.args.cub.0 c.args.visit _ _ _ _ c.first_of-from.ensures c.first_of-to.ensures c.self.view_is
