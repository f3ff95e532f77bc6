use Rattle.std.proofs.Common.{refl}
use Rattle.node_kit.specs.Life.{cut_to}
use Rattle.node_kit.proofs.worked.ends.Goals as goal

pub returns-clause-too_many : goal.returns-clause-too_many
unfolding cut_to
returns-clause-too_many c l = refl

pub returns-clause-goes_on : goal.returns-clause-goes_on
unfolding cut_to
returns-clause-goes_on c l = refl

pub returns-clause-in_tick : goal.returns-clause-in_tick
unfolding cut_to
returns-clause-in_tick c l = refl

pub returns-clause-before : goal.returns-clause-before
unfolding cut_to
returns-clause-before c l = refl
