use Rattle.std.proofs.Common.{refl}
use Rattle.std.proofs.lemmas.Bool.{false≢true}
use Rattle.run_model.proofs.OnSamples.{on_samples, excuse-by-test, excuse-to-test}
use Rattle.run_model.proofs.rows.excuses.Goals as goal

pub returns-clause-read : goal.returns-clause-read
unfolding on_samples
returns-clause-read c = excuse-by-test 0 _ refl

pub returns-clause-stop : goal.returns-clause-stop
unfolding on_samples
returns-clause-stop c = excuse-by-test 0 _ refl

pub returns-clause-read_by_other : goal.returns-clause-read_by_other
unfolding on_samples
returns-clause-read_by_other c h = false≢true (excuse-to-test 0 _ h)

pub returns-clause-read_of_piece : goal.returns-clause-read_of_piece
unfolding on_samples
returns-clause-read_of_piece c h = false≢true (excuse-to-test 0 _ h)

pub returns-clause-read_of_other : goal.returns-clause-read_of_other
unfolding on_samples
returns-clause-read_of_other c h = false≢true (excuse-to-test 0 _ h)

pub returns-clause-other_visit : goal.returns-clause-other_visit
unfolding on_samples
returns-clause-other_visit c h = false≢true (excuse-to-test 0 _ h)

pub returns-clause-late_stop : goal.returns-clause-late_stop
unfolding on_samples
returns-clause-late_stop c h = false≢true (excuse-to-test 0 _ h)

pub returns-clause-other_stop : goal.returns-clause-other_stop
unfolding on_samples
returns-clause-other_stop c h = false≢true (excuse-to-test 0 _ h)

pub returns-clause-never_put : goal.returns-clause-never_put
unfolding on_samples
returns-clause-never_put c h = false≢true (excuse-to-test 0 _ h)

pub returns-clause-not_its_visit : goal.returns-clause-not_its_visit
unfolding on_samples
returns-clause-not_its_visit c h = false≢true (excuse-to-test 3 _ h)

pub returns-clause-other_put : goal.returns-clause-other_put
unfolding on_samples
returns-clause-other_put c h = false≢true (excuse-to-test 0 _ h)
