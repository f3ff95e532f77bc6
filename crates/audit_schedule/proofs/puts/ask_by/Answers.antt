use Rattle.audit_schedule.proofs.Ordered.{ask_is}
use Rattle.audit_schedule.proofs.puts.ask_by.Goals as goal

pub returns : goal.returns
returns c = ask_is c.args.plan.now.params c.args.t.now _ _ c.count_of-count.ensures c.disk_of-disk.ensures
