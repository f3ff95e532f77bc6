use Rattle.std.proofs.lemmas.Result.{on_ok_weaker}
use Rattle.audit_schedule.proofs.Ordered.{begin_adds, finish_adds}
use Rattle.audit_schedule.proofs.asks.add_ask.Goals as goal

pub returns-in-Begin : goal.returns-in-Begin
returns-in-Begin c = on_ok_weaker c.add.result (λ added a. begin_adds _ _ _ c.in-Begin.ask c.in-Begin.is added a) c.add.ensures

pub returns-in-Finish : goal.returns-in-Finish
returns-in-Finish c = λ a. finish_adds _ _ c.in-Finish.field-0 c.in-Finish.is a
