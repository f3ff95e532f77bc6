use Rattle.audit_frame.proofs.Shelved.{at_told}
use Rattle.audit_frame.proofs.shelf.Records.at.Goals as goal

pub returns : goal.returns
returns c = at_told c.args.number c.args.cub.0 c.args.visit _ _ _ _ c.self.view_is c.row_at.ensures c.at.ensures
