use Rattle.std.proofs.Common.{◌≡◌, refl, sym, ⊎_elim, inl, inr, true, None, [], ◌∷◌, arith}
use Rattle.std.proofs.lemmas.Bool.{false≢true}
use Rattle.run_model.specs.Samples.{ask, dying, kept, ordered, starts}
use Rattle.run_model.proofs.OnSamples.{on_samples}
use Rattle.audit_waits.proofs.OnRuns.{all_eight, idle, in_one_beat}
use Rattle.audit_waits.proofs.rows.redundant.Goals as goal

pub returns-clause-of_the_living : goal.returns-clause-of_the_living
unfolding on_samples
returns-clause-of_the_living c k plan =
    let run = kept k plan 1 (dying None None None) ordered (starts 1 0 ask true ∷ []) in
    in_one_beat run refl refl (all_eight run 0 (λ ends. idle _ _ _ _ _ _ refl)
    (λ ends. record {
      taken = λ a slot visit o s p g l d w. ⊎_elim
          (λ own. ⊎_elim (λ x. absurd (false≢true (sym x.1))) (λ n. absurd n) own.1.1)
          (λ next. absurd (false≢true next.1.0)) s;
    })
    (λ ends. idle _ _ _ _ _ _ refl) (λ ends. idle _ _ _ _ _ _ refl) (λ ends. idle _ _ _ _ _ _ refl)
    (λ ends. idle _ _ _ _ _ _ refl) (λ ends. idle _ _ _ _ _ _ refl) (λ ends. idle _ _ _ _ _ _ refl))

pub returns-clause-of_the_dead : goal.returns-clause-of_the_dead
unfolding on_samples
returns-clause-of_the_dead c k plan = record {
  reading = 0;
  low = omega arith;
  ticks = (omega arith, (refl, refl), refl);
  passed_over = λ h. ⊎_elim (λ t. let holder = t.1 in absurd (cc)) (λ n. n)
      (h.taken ask 1 0 (inl refl) (inr (refl, (refl, inl (refl, refl)))) refl refl (omega arith) refl refl);
  before = λ cub beat reading low ticks comes. ⊎_elim
      (λ l. absurd (omega (arith, l)))
      (λ e. let here = e.0 in let less = e.1 in let none : 0 ≡ cub = omega (arith, less) in rw (here, ← none) (idle _ _ _ _ _ _ refl)) comes;
  place = refl;
}
