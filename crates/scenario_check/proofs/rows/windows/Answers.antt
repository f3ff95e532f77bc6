use Rattle.std.proofs.Common.{refl}
use Rattle.scenario_check.proofs.rows.windows.Goals as goal

pub returns-clause-as_long : goal.returns-clause-as_long
returns-clause-as_long c = refl

pub returns-clause-shorter : goal.returns-clause-shorter
returns-clause-shorter c = refl
