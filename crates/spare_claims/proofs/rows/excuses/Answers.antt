use Rattle.std.proofs.Common.{refl}
use Rattle.std.proofs.lemmas.Bool.{false≢true}
use Rattle.slot_plan.specs.Samples.{small}
use Rattle.disk_death.specs.Deaths.{death_of_disk}
use Rattle.run_model.proofs.OnSamples.{on_samples}
use Rattle.spare_claims.proofs.Excuses.{excused-by-test, excused-to-test}
use Rattle.spare_claims.proofs.rows.excuses.Goals as goal

pub returns-clause-of_living : goal.returns-clause-of_living
unfolding on_samples death_of_disk
returns-clause-of_living c = excused-by-test small _ _ 0 1 refl

pub returns-clause-of_dead : goal.returns-clause-of_dead
unfolding on_samples death_of_disk
returns-clause-of_dead c h = false≢true (excused-to-test small _ _ 0 1 h)

pub returns-clause-just_dead : goal.returns-clause-just_dead
unfolding on_samples death_of_disk
returns-clause-just_dead c = excused-by-test small _ _ 0 1 refl

pub returns-clause-other_dead : goal.returns-clause-other_dead
unfolding on_samples death_of_disk
returns-clause-other_dead c = excused-by-test small _ _ 0 1 refl

pub returns-clause-not_to_the_end : goal.returns-clause-not_to_the_end
unfolding on_samples death_of_disk
returns-clause-not_to_the_end c = excused-by-test small _ _ 0 1 refl

pub returns-clause-piece : goal.returns-clause-piece
unfolding on_samples death_of_disk
returns-clause-piece c = excused-by-test small _ _ 0 1 refl

pub returns-clause-piece_of_living : goal.returns-clause-piece_of_living
unfolding on_samples death_of_disk
returns-clause-piece_of_living c h = false≢true (excused-to-test small _ _ 0 1 h)

pub returns-clause-of_death_alone : goal.returns-clause-of_death_alone
unfolding on_samples death_of_disk
returns-clause-of_death_alone c h = false≢true (excused-to-test small _ _ 0 1 h)

pub returns-clause-stopped : goal.returns-clause-stopped
unfolding on_samples death_of_disk
returns-clause-stopped c = excused-by-test small _ _ 0 1 refl

pub returns-clause-stopped_late : goal.returns-clause-stopped_late
unfolding on_samples death_of_disk
returns-clause-stopped_late c h = false≢true (excused-to-test small _ _ 0 1 h)

pub returns-clause-never_put : goal.returns-clause-never_put
unfolding on_samples death_of_disk
returns-clause-never_put c h = false≢true (excused-to-test small _ _ 0 1 h)
