use Rattle.std.proofs.Common.{refl}
use Rattle.std.proofs.lemmas.Bool.{false≢true}
use Rattle.run_model.proofs.OnSamples.{on_samples, excuse-by-test, excuse-to-test}
use Rattle.run_model.proofs.rows.returns.Goals as goal

pub returns-clause-too_late : goal.returns-clause-too_late
unfolding on_samples
returns-clause-too_late c = excuse-by-test 17 _ refl

pub returns-clause-at_first : goal.returns-clause-at_first
unfolding on_samples
returns-clause-at_first c = excuse-by-test 17 _ refl

pub returns-clause-of_other : goal.returns-clause-of_other
unfolding on_samples
returns-clause-of_other c = excuse-by-test 17 _ refl

pub returns-clause-loses_piece : goal.returns-clause-loses_piece
unfolding on_samples
returns-clause-loses_piece c = excuse-by-test 17 _ refl

pub returns-clause-too_late_for_death : goal.returns-clause-too_late_for_death
unfolding on_samples
returns-clause-too_late_for_death c = excuse-by-test 17 _ refl

pub returns-clause-in_time : goal.returns-clause-in_time
unfolding on_samples
returns-clause-in_time c h = false≢true (excuse-to-test 17 _ h)

pub returns-clause-lets_piece_in : goal.returns-clause-lets_piece_in
unfolding on_samples
returns-clause-lets_piece_in c h = false≢true (excuse-to-test 17 _ h)

pub returns-clause-in_time_for_death : goal.returns-clause-in_time_for_death
unfolding on_samples
returns-clause-in_time_for_death c h = false≢true (excuse-to-test 17 _ h)
