use Rattle.std.proofs.Common.{refl}
use Rattle.std.proofs.lemmas.Bool.{false≢true}
use Rattle.run_model.proofs.OnSamples.{on_samples, excuse-by-test, excuse-to-test}
use Rattle.run_model.proofs.rows.deaths.Goals as goal

pub returns-clause-first : goal.returns-clause-first
unfolding on_samples
returns-clause-first c = excuse-by-test 1 _ refl

pub returns-clause-last : goal.returns-clause-last
unfolding on_samples
returns-clause-last c = excuse-by-test 1 _ refl

pub returns-clause-piece_unread : goal.returns-clause-piece_unread
unfolding on_samples
returns-clause-piece_unread c = excuse-by-test 1 _ refl

pub returns-clause-piece_dead : goal.returns-clause-piece_dead
unfolding on_samples
returns-clause-piece_dead c = excuse-by-test 1 _ refl

pub returns-clause-taken_over : goal.returns-clause-taken_over
unfolding on_samples
returns-clause-taken_over c h = false≢true (excuse-to-test 1 _ h)

pub returns-clause-after : goal.returns-clause-after
unfolding on_samples
returns-clause-after c h = false≢true (excuse-to-test 1 _ h)

pub returns-clause-of_other : goal.returns-clause-of_other
unfolding on_samples
returns-clause-of_other c h = false≢true (excuse-to-test 1 _ h)

pub returns-clause-cub_lives : goal.returns-clause-cub_lives
unfolding on_samples
returns-clause-cub_lives c h = false≢true (excuse-to-test 1 _ h)

pub returns-clause-no_piece : goal.returns-clause-no_piece
unfolding on_samples
returns-clause-no_piece c h = false≢true (excuse-to-test 1 _ h)

pub returns-clause-piece_sent : goal.returns-clause-piece_sent
unfolding on_samples
returns-clause-piece_sent c h = false≢true (excuse-to-test 1 _ h)

pub returns-clause-piece_before_death : goal.returns-clause-piece_before_death
unfolding on_samples
returns-clause-piece_before_death c h = false≢true (excuse-to-test 1 _ h)
