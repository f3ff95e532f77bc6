use Rattle.std.proofs.Common.{◌≡◌, refl, arith}
use Rattle.slot_plan.specs.Times.{time_of, due, first_due, cub_of, disk_of}
use Rattle.run_facts.specs.Commanded.{stop_ordered}
use Rattle.run_promises.proofs.Worked as worked
use Rattle.run_promises.proofs.rows.hindrances.Goals as goal

pub returns-clause-lives : goal.returns-clause-lives
unfolding time_of due first_due cub_of
returns-clause-lives c k p s death is = let same : 51 ≡ death = worked.same_beat 51 death is in omega (arith, same)

pub returns-clause-dies : goal.returns-clause-dies
unfolding time_of due first_due cub_of
returns-clause-dies c k p s h = let early = h 50 refl in omega (arith, early)

pub returns-clause-other_disk : goal.returns-clause-other_disk
unfolding disk_of
returns-clause-other_disk c k p s = ((λ e. omega (arith, e)), tt)

pub returns-clause-own_disk : goal.returns-clause-own_disk
unfolding disk_of
returns-clause-own_disk c k p s h = h.0 refl

pub returns-clause-late_stop : goal.returns-clause-late_stop
unfolding time_of
returns-clause-late_stop c k p s beat o = let is = (worked.stop_is_in 150 0 beat o).0 in omega (arith, is)

pub returns-clause-early_stop : goal.returns-clause-early_stop
unfolding time_of stop_ordered
returns-clause-early_stop c k p s h = let late = h 149 refl in omega (arith, late)

pub returns-clause-one_dies : goal.returns-clause-one_dies
returns-clause-one_dies c k p s = worked.only_cub_one k p s

pub returns-clause-two_die : goal.returns-clause-two_die
returns-clause-two_die c k p s h = let lives = h 7 (omega arith) (λ e. omega (arith, e)) in absurd (cc)
