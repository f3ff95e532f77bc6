use Rattle.std.proofs.Common.{refl}
use Rattle.plan_faults.specs.Faults.{conditions}
use Rattle.plan_faults.proofs.rows.false_ones.Goals as goal

pub returns-clause-none : goal.returns-clause-none
unfolding conditions
returns-clause-none c = refl

pub returns-clause-two : goal.returns-clause-two
unfolding conditions
returns-clause-two c = refl
