use Rattle.std.proofs.Common.{refl}
use Rattle.tiger_top.proofs.rows.images.Goals as goal

pub returns-clause-exists : goal.returns-clause-exists
returns-clause-exists c = refl

pub returns-clause-other : goal.returns-clause-other
returns-clause-other c h = absurd (cc)

pub returns-clause-run : goal.returns-clause-run
returns-clause-run c = refl

pub returns-clause-done : goal.returns-clause-done
returns-clause-done c = tt

pub returns-clause-rule : goal.returns-clause-rule
returns-clause-rule c h = h

pub returns-clause-line : goal.returns-clause-line
returns-clause-line c = refl

pub returns-clause-exit : goal.returns-clause-exit
returns-clause-exit c = refl

pub returns-clause-refuses : goal.returns-clause-refuses
returns-clause-refuses c = tt

pub returns-clause-no_tigers : goal.returns-clause-no_tigers
returns-clause-no_tigers c h = h
