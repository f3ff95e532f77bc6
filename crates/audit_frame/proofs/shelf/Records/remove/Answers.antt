use Rattle.std.proofs.Common.{ap, ◌∙◌}
use Rattle.audit_frame.specs.Shelves.{row_for}
use Rattle.audit_frame.proofs.Shelved.{shelf_without}
use Rattle.audit_frame.proofs.shelf.Records.remove.Goals as goal

pub returns : goal.returns
returns c = λ n q. shelf_without c.args.by c.args.cub.0 n c.args.r.now q _ _ _ _ c.self.view_is
    (c.place_of-place.ensures ∙ ap row_for c.number_by.ensures) c.remove_at.ensures
