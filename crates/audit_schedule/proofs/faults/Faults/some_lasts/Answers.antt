use Rattle.audit_schedule.proofs.Rowed.{row_tells}
use Rattle.audit_schedule.proofs.faults.Faults.some_lasts.Goals as goal

pub returns : goal.returns
returns c = row_tells c.args.disk c.args.beat _ _ _ _ c.self.view_is c.self.invariant c.some_lasts_in.ensures
