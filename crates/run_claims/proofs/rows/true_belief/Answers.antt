use Rattle.std.proofs.Common.{refl}
use Rattle.run_model.specs.Moments.{next_moment}
use Rattle.run_claims.proofs.rows.true_belief.Goals as goal

pub returns-clause-of_dead : goal.returns-clause-of_dead
unfolding next_moment
returns-clause-of_dead c = (tt, (refl, tt))

pub returns-clause-of_living : goal.returns-clause-of_living
unfolding next_moment
returns-clause-of_living c h = let died = h.1.0 in absurd (cc)

pub returns-clause-too_soon : goal.returns-clause-too_soon
returns-clause-too_soon c h = let died = h.0 in absurd (cc)

pub returns-clause-of_returned : goal.returns-clause-of_returned
unfolding next_moment
returns-clause-of_returned c = (tt, (tt, (refl, tt)))
