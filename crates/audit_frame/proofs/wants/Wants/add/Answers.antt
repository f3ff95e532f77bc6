use Rattle.audit_frame.specs.Wanted.{want_key}
use Rattle.audit_frame.proofs.Wanting.{want_added}
use Rattle.audit_frame.proofs.wants.Wants.add.Goals as goal

pub returns : goal.returns
returns c = λ w. want_added c.args.want.now w _ _ _ _ c.self.view_is c.want_key.ensures (c.in_ok-insert.ensures.updates.0 (want_key w))
