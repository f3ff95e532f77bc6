use Rattle.std.proofs.lemmas.Result.{on_ok_weaker}
use Rattle.audit_waits.proofs.Ordered.{begin_adds_disk, finish_adds_none}
use Rattle.audit_waits.proofs.starts.add_disk.Goals as goal

pub returns-in-Begin : goal.returns-in-Begin
returns-in-Begin c = on_ok_weaker c.add.result (λ added v disk. begin_adds_disk _ _ _ c.in-Begin.ask c.in-Begin.is added v disk) c.add.ensures

pub returns-in-Finish : goal.returns-in-Finish
returns-in-Finish c = λ v disk. finish_adds_none _ _ c.in-Finish.field-0 c.in-Finish.is v disk
