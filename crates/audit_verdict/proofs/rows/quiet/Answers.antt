use Rattle.audit_verdict.proofs.Quiet.{quiet_meets}
use Rattle.audit_verdict.proofs.rows.quiet.Goals as goal

pub returns : goal.returns
returns c k plan = quiet_meets k plan
