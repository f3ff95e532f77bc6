use Rattle.std.proofs.Common.{refl}
use Rattle.scenario_check.proofs.rows.crowds.Goals as goal

pub returns-clause-in_time : goal.returns-clause-in_time
returns-clause-in_time c = refl

pub returns-clause-late : goal.returns-clause-late
returns-clause-late c = refl

pub returns-clause-stopped : goal.returns-clause-stopped
returns-clause-stopped c = refl

pub returns-clause-not_yet : goal.returns-clause-not_yet
returns-clause-not_yet c = refl

pub returns-clause-not_begun : goal.returns-clause-not_begun
returns-clause-not_begun c = refl
