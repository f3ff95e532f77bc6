use Rattle.audit_schedule.proofs.Rowed.{taken_here}
use Rattle.audit_schedule.proofs.faults.push_fault.Goals as goal

pub returns : goal.returns
returns c = taken_here c.args.fault.disk.0 c.args.fault _ _ _ c.in_ok-make_row.ensures c.in_ok-push_at.ensures
