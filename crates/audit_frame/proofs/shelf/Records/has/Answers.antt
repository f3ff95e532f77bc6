use Rattle.audit_frame.proofs.Shelved.{has_told}
use Rattle.audit_frame.proofs.shelf.Records.has.Goals as goal

pub returns : goal.returns
returns c = has_told c.args.by c.args.cub.0 c.args.r.now _ _ _ _ _ c.self.view_is c.number_by.ensures c.row_at.ensures c.has.ensures
