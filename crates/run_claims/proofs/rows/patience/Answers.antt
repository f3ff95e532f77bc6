use Rattle.std.proofs.Common.{◌≡◌, refl, sym, ⊎_elim, inl, arith}
use Rattle.std.proofs.lemmas.Bool.{false≢true}
use Rattle.slot_plan.specs.Times.{due, first_due, disk_of, in_window, time_of}
use Rattle.run_model.specs.Moments.{moment_at}
use Rattle.run_model.specs.Schedule.{after_entry}
use Rattle.run_model.specs.Samples.{ask}
use Rattle.run_claims.proofs.rows.patience.Goals as goal

pub returns-clause-put_then : goal.returns-clause-put_then
unfolding moment_at after_entry
returns-clause-put_then c cub beat reading low t = rw (t.0, t.1, t.2) (record {
  taken = λ a slot visit o s p g l d w. ⊎_elim (λ e. let same : a ≡ ask = cc in absurd (false≢true (sym (rw same at p)))) (λ n. absurd n) o;
})

pub returns-clause-stopped : goal.returns-clause-stopped
unfolding moment_at after_entry
returns-clause-stopped c cub beat reading low t = rw (t.0, t.1, t.2) (record {
  taken = λ a slot visit o s p g l d w. ⊎_elim (λ e. let same : a ≡ ask = cc in absurd (false≢true (sym (rw same at g)))) (λ n. absurd n) o;
})

pub returns-clause-silent : goal.returns-clause-silent
unfolding due first_due disk_of in_window moment_at after_entry time_of
returns-clause-silent c h =
    ⊎_elim (λ t. let holder = t.1 in absurd (cc))
    (λ view. ⊎_elim (λ r. ⊎_elim (λ stop. let recent = stop.1 in omega (arith, recent)) (λ n. n) r.2) (λ n. n) view)
    ((h 0 780 7800000 (omega arith) (refl, refl, refl)).taken ask 1 8 (inl refl) (inl (refl, (refl, inl (refl, refl)))) refl refl (omega arith) refl refl)

pub returns-clause-passed_over : goal.returns-clause-passed_over
unfolding due first_due disk_of in_window moment_at after_entry
returns-clause-passed_over c h =
    ⊎_elim (λ t. let holder = t.1 in absurd (cc)) (λ n. n)
    ((h 0 1 10000 (omega arith) (refl, refl, refl)).taken ask 1 0 (inl refl) (inl (refl, (refl, inl (refl, refl)))) refl refl (omega arith) refl refl)

pub returns-clause-returned : goal.returns-clause-returned
unfolding moment_at after_entry
returns-clause-returned c cub beat reading low t = rw (t.0, t.1, t.2) (record {
  taken = λ a slot visit o s p g l d w. ⊎_elim
      (λ own. absurd (false≢true (sym own.1.0)))
      (λ next. absurd (false≢true next.1.0)) s;
})

pub returns-clause-other_returned : goal.returns-clause-other_returned
unfolding due first_due disk_of in_window moment_at after_entry
returns-clause-other_returned c h =
    ⊎_elim (λ t. let holder = t.1 in absurd (cc)) (λ n. n)
    ((h 0 5 50000 (omega arith) (refl, refl, refl)).taken ask 1 0 (inl refl) (inl (refl, (refl, inl (refl, refl)))) refl refl (omega arith) refl refl)
