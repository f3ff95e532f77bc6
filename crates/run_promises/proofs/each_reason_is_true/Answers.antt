use Rattle.run_promises.proofs.Reports.{each_reason_is_true}
use Rattle.run_promises.proofs.each_reason_is_true.Goals as goal

pub returns : goal.returns
returns c = each_reason_is_true
