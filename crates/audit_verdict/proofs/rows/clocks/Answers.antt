use Rattle.std.proofs.Common.{refl, arith}
use Rattle.audit_verdict.proofs.rows.clocks.Goals as goal

pub returns-clause-shown : goal.returns-clause-shown
returns-clause-shown c k plan = (refl, (refl, tt))

pub returns-clause-ahead : goal.returns-clause-ahead
returns-clause-ahead c k plan h = let ahead = h.0 in omega (arith, ahead)
