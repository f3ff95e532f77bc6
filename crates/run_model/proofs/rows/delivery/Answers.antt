use Rattle.std.proofs.Common.{refl}
use Rattle.std.proofs.lemmas.Bool.{false≢true}
use Rattle.run_model.proofs.OnSamples.{on_samples, by-test, to-test}
use Rattle.run_model.proofs.rows.delivery.Goals as goal

pub returns-clause-whole : goal.returns-clause-whole
unfolding on_samples
returns-clause-whole c s = by-test s _ refl

pub returns-clause-nothing : goal.returns-clause-nothing
unfolding on_samples
returns-clause-nothing c s h = false≢true (to-test s _ h)

pub returns-clause-never_put : goal.returns-clause-never_put
unfolding on_samples
returns-clause-never_put c s h = false≢true (to-test s _ h)

pub returns-clause-not_its_visit : goal.returns-clause-not_its_visit
unfolding on_samples
returns-clause-not_its_visit c s h = false≢true (to-test s _ h)

pub returns-clause-twice : goal.returns-clause-twice
unfolding on_samples
returns-clause-twice c s h = false≢true (to-test s _ h)

pub returns-clause-short : goal.returns-clause-short
unfolding on_samples
returns-clause-short c s h = false≢true (to-test s _ h)

pub returns-clause-other_bytes : goal.returns-clause-other_bytes
unfolding on_samples
returns-clause-other_bytes c s h = false≢true (to-test s _ h)

pub returns-clause-late : goal.returns-clause-late
unfolding on_samples
returns-clause-late c s h = false≢true (to-test s _ h)

pub returns-clause-early : goal.returns-clause-early
unfolding on_samples
returns-clause-early c s h = false≢true (to-test s _ h)

pub returns-clause-other_beat : goal.returns-clause-other_beat
unfolding on_samples
returns-clause-other_beat c s h = false≢true (to-test s _ h)

pub returns-clause-other_cub : goal.returns-clause-other_cub
unfolding on_samples
returns-clause-other_cub c s h = false≢true (to-test s _ h)
