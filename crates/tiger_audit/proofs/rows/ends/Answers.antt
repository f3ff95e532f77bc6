use Rattle.std.proofs.Common.{refl}
use Rattle.tiger_audit.proofs.rows.ends.Goals as goal

pub returns-clause-entry : goal.returns-clause-entry
returns-clause-entry c = refl

pub returns-clause-order : goal.returns-clause-order
returns-clause-order c = refl

pub returns-clause-death : goal.returns-clause-death
returns-clause-death c = refl

pub returns-clause-tick : goal.returns-clause-tick
returns-clause-tick c = refl

pub returns-clause-first_tick : goal.returns-clause-first_tick
returns-clause-first_tick c = refl
