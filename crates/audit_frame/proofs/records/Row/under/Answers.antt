use Rattle.std.proofs.Common.{◌∙◌}
use Rattle.audit_frame.proofs.Kept.{between_numbers}
use Rattle.audit_frame.proofs.records.Row.under.Goals as goal

pub returns : goal.returns
returns c =
    c.range.ensures.between tt
    ∙ between_numbers c.args.number _ _ _ _ c.first_of-from.ensures c.first_of-to.ensures c.self.view_is
