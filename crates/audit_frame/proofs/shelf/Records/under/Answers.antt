use Rattle.audit_frame.proofs.Shelved.{under_told}
use Rattle.audit_frame.proofs.shelf.Records.under.Goals as goal

pub returns : goal.returns
returns c = under_told c.args.number _ _ _ _ c.self.view_is c.row_at.ensures c.under.ensures
