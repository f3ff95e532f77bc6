use Rattle.audit_read.proofs.Planning.{no_plan}
use Rattle.audit_read.proofs.plans.is_plan.Goals as goal

pub returns-in-Err : goal.returns-in-Err
returns-in-Err c = no_plan c.args.p c.in-Err.field-0 c.in-Err.ensures.fault
