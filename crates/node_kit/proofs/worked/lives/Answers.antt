use Rattle.std.proofs.Common.{refl}
use Rattle.node_kit.specs.Life.{acts, dies, returns, hears}
use Rattle.node_kit.proofs.worked.lives.Goals as goal

pub returns-clause-cut_acts : goal.returns-clause-cut_acts
unfolding acts dies returns hears
returns-clause-cut_acts c = refl

pub returns-clause-over : goal.returns-clause-over
unfolding acts dies returns hears
returns-clause-over c = refl

pub returns-clause-whole_idle : goal.returns-clause-whole_idle
unfolding acts dies returns hears
returns-clause-whole_idle c = refl

pub returns-clause-away : goal.returns-clause-away
unfolding acts dies returns hears
returns-clause-away c = refl

pub returns-clause-again : goal.returns-clause-again
unfolding acts dies returns hears
returns-clause-again c = refl

pub returns-clause-dies_apart : goal.returns-clause-dies_apart
unfolding acts dies returns hears
returns-clause-dies_apart c = refl

pub returns-clause-dies_within : goal.returns-clause-dies_within
unfolding acts dies returns hears
returns-clause-dies_within c = refl

pub returns-clause-returning : goal.returns-clause-returning
unfolding acts dies returns hears
returns-clause-returning c = refl

pub returns-clause-returned : goal.returns-clause-returned
unfolding acts dies returns hears
returns-clause-returned c = refl

pub returns-clause-lost : goal.returns-clause-lost
unfolding acts dies returns hears
returns-clause-lost c = refl

pub returns-clause-later : goal.returns-clause-later
unfolding acts dies returns hears
returns-clause-later c = refl

pub returns-clause-earlier : goal.returns-clause-earlier
unfolding acts dies returns hears
returns-clause-earlier c = refl

pub returns-clause-ending : goal.returns-clause-ending
unfolding acts dies returns hears
returns-clause-ending c = refl

pub returns-clause-ended : goal.returns-clause-ended
unfolding acts dies returns hears
returns-clause-ended c = refl
