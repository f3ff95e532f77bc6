use Rattle.audit_frame.proofs.Tabled.{set_under_both}
use Rattle.audit_visits.proofs.instances.Instances.set.Goals as goal

pub returns : goal.returns
returns c = λ s n. set_under_both c.args.slot.0 c.args.visit s n c.args.v _ _ _ c.self.view_is (c.in_ok-insert.ensures.updates.0 (s, n))
