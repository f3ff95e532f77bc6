use Rattle.std.proofs.Common.{refl}
use Rattle.slot_plan.specs.Times.{time_of}
use Rattle.scenario_read.specs.Events.{most_blocks}
use Rattle.scenario_check.proofs.rows.numbers.Goals as goal

pub returns-clause-memory : goal.returns-clause-memory
unfolding most_blocks time_of
returns-clause-memory c = refl

pub returns-clause-mended : goal.returns-clause-mended
returns-clause-mended c = refl

pub returns-clause-more : goal.returns-clause-more
returns-clause-more c = refl
