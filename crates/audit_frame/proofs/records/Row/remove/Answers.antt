use Rattle.audit_frame.specs.Records.{held_by}
use Rattle.audit_frame.proofs.Kept.{record_removed}
use Rattle.audit_frame.proofs.records.Row.remove.Goals as goal

pub returns : goal.returns
returns c = λ n q. record_removed c.args.by c.args.cub.0 n c.args.r.now q _ _ _ _ c.self.view_is c.held_by-held.ensures
    (c.remove.ensures.updates.0 (held_by c.args.by n q))
