use Rattle.std.proofs.Common.{refl}
use Rattle.tiger_top.proofs.rows.rules.Goals as goal

pub returns-clause-line : goal.returns-clause-line
returns-clause-line c = refl

pub returns-clause-exit : goal.returns-clause-exit
returns-clause-exit c = refl

pub returns-clause-refuses : goal.returns-clause-refuses
returns-clause-refuses c = tt

pub returns-clause-done : goal.returns-clause-done
returns-clause-done c h = h

pub returns-clause-no_tigers : goal.returns-clause-no_tigers
returns-clause-no_tigers c h = h

pub returns-clause-tigers : goal.returns-clause-tigers
returns-clause-tigers c = refl
