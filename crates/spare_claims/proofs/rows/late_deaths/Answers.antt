use Rattle.std.proofs.Common.{refl, ⊎_elim, inl, arith}
use Rattle.slot_plan.specs.Times.{due, first_due, time_of}
use Rattle.run_model.proofs.OnSamples.{on_samples}
use Rattle.spare_claims.proofs.rows.late_deaths.Goals as goal

pub returns-clause-just_too_soon : goal.returns-clause-just_too_soon
unfolding due first_due time_of
returns-clause-just_too_soon c = omega arith

pub returns-clause-just_in_time : goal.returns-clause-just_in_time
unfolding due first_due time_of
returns-clause-just_in_time c h = omega (arith, h)

pub returns-clause-late : goal.returns-clause-late
unfolding on_samples
returns-clause-late c = record { failed = inl (refl, refl, refl); soon = omega arith }

pub returns-clause-early : goal.returns-clause-early
unfolding on_samples
returns-clause-early c h = let soon = h.soon in omega (arith, soon)

pub returns-clause-not_read : goal.returns-clause-not_read
unfolding on_samples
returns-clause-not_read c h = h.failed

pub returns-clause-of_piece : goal.returns-clause-of_piece
unfolding on_samples
returns-clause-of_piece c h = ⊎_elim (λ f. let piece = f.2 in omega (arith, piece)) (λ n. n) h.failed

pub returns-clause-of_other_cub : goal.returns-clause-of_other_cub
unfolding on_samples
returns-clause-of_other_cub c h = h.failed

pub returns-clause-of_other_visit : goal.returns-clause-of_other_visit
unfolding on_samples
returns-clause-of_other_visit c h = ⊎_elim (λ f. let visit = f.1 in omega (arith, visit)) (λ n. n) h.failed
