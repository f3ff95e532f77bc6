use Rattle.std.proofs.Common.{refl}
use Rattle.std.proofs.lemmas.Bool.{false≢true}
use Rattle.run_model.proofs.Timely.{timed}
use Rattle.run_model.proofs.OnSamples.{on_samples}
use Rattle.run_model.proofs.rows.timed_run.Goals as goal

pub returns-clause-skewed : goal.returns-clause-skewed
unfolding on_samples
returns-clause-skewed c k plan = (timed _).0 refl

pub returns-clause-dead : goal.returns-clause-dead
unfolding on_samples
returns-clause-dead c k plan = (timed _).0 refl

pub returns-clause-next_but_one_dead : goal.returns-clause-next_but_one_dead
unfolding on_samples
returns-clause-next_but_one_dead c k plan = (timed _).0 refl

pub returns-clause-too_skewed : goal.returns-clause-too_skewed
unfolding on_samples
returns-clause-too_skewed c k plan h = false≢true ((timed _).1 h)

pub returns-clause-early : goal.returns-clause-early
unfolding on_samples
returns-clause-early c k plan h = false≢true ((timed _).1 h)

pub returns-clause-behind_the_end : goal.returns-clause-behind_the_end
unfolding on_samples
returns-clause-behind_the_end c k plan h = false≢true ((timed _).1 h)

pub returns-clause-not_written : goal.returns-clause-not_written
unfolding on_samples
returns-clause-not_written c k plan h = false≢true ((timed _).1 h)

pub returns-clause-unforeseen : goal.returns-clause-unforeseen
unfolding on_samples
returns-clause-unforeseen c k plan h = false≢true ((timed _).1 h)

pub returns-clause-next_dead : goal.returns-clause-next_dead
unfolding on_samples
returns-clause-next_dead c k plan h = false≢true ((timed _).1 h)

pub returns-clause-back : goal.returns-clause-back
unfolding on_samples
returns-clause-back c k plan = (timed _).0 refl

pub returns-clause-back_behind_the_end : goal.returns-clause-back_behind_the_end
unfolding on_samples
returns-clause-back_behind_the_end c k plan = (timed _).0 refl

pub returns-clause-back_late : goal.returns-clause-back_late
unfolding on_samples
returns-clause-back_late c k plan h = false≢true ((timed _).1 h)

pub returns-clause-back_twice : goal.returns-clause-back_twice
unfolding on_samples
returns-clause-back_twice c k plan h = false≢true ((timed _).1 h)

pub returns-clause-back_unwritten : goal.returns-clause-back_unwritten
unfolding on_samples
returns-clause-back_unwritten c k plan h = false≢true ((timed _).1 h)

pub returns-clause-back_unforeseen : goal.returns-clause-back_unforeseen
unfolding on_samples
returns-clause-back_unforeseen c k plan h = false≢true ((timed _).1 h)

pub returns-clause-back_of_the_living : goal.returns-clause-back_of_the_living
unfolding on_samples
returns-clause-back_of_the_living c k plan h = false≢true ((timed _).1 h)
