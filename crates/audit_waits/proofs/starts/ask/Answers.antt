use Rattle.audit_waits.proofs.Ordered.{begin_asks, finish_asks}
use Rattle.audit_waits.proofs.starts.ask.Goals as goal

pub returns-in-Begin : goal.returns-in-Begin
returns-in-Begin c = begin_asks _ _ _ c.in-Begin.ask c.in-Begin.is c.mark_asked.ensures

pub returns-in-Finish : goal.returns-in-Finish
returns-in-Finish c = finish_asks _ _ c.in-Finish.field-0 c.in-Finish.is
