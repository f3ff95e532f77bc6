use Rattle.audit_frame.specs.Records.{held_by}
use Rattle.audit_frame.proofs.Kept.{record_added}
use Rattle.audit_frame.proofs.records.Row.add.Goals as goal

pub returns : goal.returns
returns c = λ n q. record_added c.args.by c.args.cub.0 n c.args.r.now q _ _ _ _ c.self.view_is c.held_by.ensures
    (c.in_ok-insert.ensures.updates.0 (held_by c.args.by n q))
