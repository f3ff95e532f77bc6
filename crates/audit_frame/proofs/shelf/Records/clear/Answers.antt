use Rattle.audit_frame.proofs.Shelved.{shelf_cleared}
use Rattle.audit_frame.proofs.shelf.Records.clear.Goals as goal

pub returns : goal.returns
returns c = λ w n q. shelf_cleared w c.args.cub.0 n q _ _ _ c.self.view_is c.clear_rows.ensures
