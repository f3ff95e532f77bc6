use Rattle.std.proofs.Common.{refl}
use Rattle.tiger_top.proofs.rows.unsound_plans.Goals as goal

pub returns-clause-line : goal.returns-clause-line
returns-clause-line c f = refl

pub returns-clause-exit : goal.returns-clause-exit
returns-clause-exit c f = refl

pub returns-clause-refuses : goal.returns-clause-refuses
returns-clause-refuses c f h = h

pub returns-clause-check : goal.returns-clause-check
returns-clause-check c f = refl

pub returns-clause-run : goal.returns-clause-run
returns-clause-run c = refl

pub returns-clause-rule : goal.returns-clause-rule
returns-clause-rule c h = h

pub returns-clause-no_tigers : goal.returns-clause-no_tigers
returns-clause-no_tigers c f h = h

pub returns-clause-no_disks : goal.returns-clause-no_disks
returns-clause-no_disks c f h = h
