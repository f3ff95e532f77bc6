use Rattle.std.proofs.Common.{refl}
use Rattle.std.proofs.lemmas.Bool.{false≢true}
use Rattle.run_model.proofs.OnSamples.{on_samples, by-test, to-test}
use Rattle.run_model.proofs.rows.pieces.Goals as goal

pub returns-clause-both : goal.returns-clause-both
unfolding on_samples
returns-clause-both c s = by-test s _ refl

pub returns-clause-one : goal.returns-clause-one
unfolding on_samples
returns-clause-one c s h = false≢true (to-test s _ h)

pub returns-clause-twice : goal.returns-clause-twice
unfolding on_samples
returns-clause-twice c s h = false≢true (to-test s _ h)

pub returns-clause-and_whole : goal.returns-clause-and_whole
unfolding on_samples
returns-clause-and_whole c s h = false≢true (to-test s _ h)

pub returns-clause-other_bytes : goal.returns-clause-other_bytes
unfolding on_samples
returns-clause-other_bytes c s h = false≢true (to-test s _ h)

pub returns-clause-early : goal.returns-clause-early
unfolding on_samples
returns-clause-early c s h = false≢true (to-test s _ h)

pub returns-clause-other_cub : goal.returns-clause-other_cub
unfolding on_samples
returns-clause-other_cub c s h = false≢true (to-test s _ h)
