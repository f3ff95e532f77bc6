use Rattle.std.proofs.Common.{refl}
use Rattle.run_model.proofs.OnSamples.{on_samples}
use Rattle.run_model.proofs.rows.views.Goals as goal

pub returns-clause-taken : goal.returns-clause-taken
unfolding on_samples
returns-clause-taken c = refl

pub returns-clause-of_other : goal.returns-clause-of_other
unfolding on_samples
returns-clause-of_other c = refl

pub returns-clause-dropped : goal.returns-clause-dropped
unfolding on_samples
returns-clause-dropped c = refl

pub returns-clause-other_visit : goal.returns-clause-other_visit
unfolding on_samples
returns-clause-other_visit c = refl

pub returns-clause-other_kind : goal.returns-clause-other_kind
unfolding on_samples
returns-clause-other_kind c = refl

pub returns-clause-other_tenancy : goal.returns-clause-other_tenancy
unfolding on_samples
returns-clause-other_tenancy c = refl

pub returns-clause-again : goal.returns-clause-again
unfolding on_samples
returns-clause-again c = refl

pub returns-clause-dead : goal.returns-clause-dead
unfolding on_samples
returns-clause-dead c = refl

pub returns-clause-other_dead : goal.returns-clause-other_dead
unfolding on_samples
returns-clause-other_dead c = refl

pub returns-clause-back : goal.returns-clause-back
unfolding on_samples
returns-clause-back c = refl

pub returns-clause-since_back : goal.returns-clause-since_back
unfolding on_samples
returns-clause-since_back c = refl

pub returns-clause-other_back : goal.returns-clause-other_back
unfolding on_samples
returns-clause-other_back c = refl

pub returns-clause-begins_anew : goal.returns-clause-begins_anew
unfolding on_samples
returns-clause-begins_anew c = refl
