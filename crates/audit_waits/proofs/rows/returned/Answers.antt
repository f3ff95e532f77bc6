use Rattle.std.proofs.Common.{◌<◌, false, refl, sym, ⊎_elim, inl, Some, None, [], ◌∷◌, arith}
use Rattle.std.proofs.lemmas.Bool.{false≢true}
use Rattle.run_model.specs.Samples.{ask, is_back, dies, dying, kept, kept_of_lives, of_none, ordered, starts}
use Rattle.run_model.proofs.OnSamples.{on_samples}
use Rattle.audit_waits.proofs.OnRuns.{all_eight, idle, in_three_beats, passes_before_two}
use Rattle.audit_waits.proofs.rows.returned.Goals as goal

pub returns-clause-puts_nobody : goal.returns-clause-puts_nobody
unfolding on_samples
returns-clause-puts_nobody c k plan =
    let run = kept_of_lives k plan 3 (dying (Some 0) None None) of_none (dying (Some 2) None None) ordered
    (dies 0 0 ∷ is_back 0 2 ∷ starts 0 2 ask false ∷ []) in
    in_three_beats run refl refl
    (all_eight run 0
    (λ ends. absurd (false≢true ends.0)) (λ ends. idle _ _ _ _ _ _ refl) (λ ends. idle _ _ _ _ _ _ refl) (λ ends. idle _ _ _ _ _ _ refl)
    (λ ends. idle _ _ _ _ _ _ refl) (λ ends. idle _ _ _ _ _ _ refl) (λ ends. idle _ _ _ _ _ _ refl) (λ ends. idle _ _ _ _ _ _ refl))
    (all_eight run 1
    (λ ends. absurd (false≢true ends.0)) (λ ends. idle _ _ _ _ _ _ refl) (λ ends. idle _ _ _ _ _ _ refl) (λ ends. idle _ _ _ _ _ _ refl)
    (λ ends. idle _ _ _ _ _ _ refl) (λ ends. idle _ _ _ _ _ _ refl) (λ ends. idle _ _ _ _ _ _ refl) (λ ends. idle _ _ _ _ _ _ refl))
    (all_eight run 2
    (λ ends. record {
      taken = λ a slot visit o s p g l d w. ⊎_elim
          (λ own. absurd (false≢true (sym own.1.0)))
          (λ next. absurd (false≢true next.1.0)) s;
    }) (λ ends. idle _ _ _ _ _ _ refl) (λ ends. idle _ _ _ _ _ _ refl) (λ ends. idle _ _ _ _ _ _ refl)
    (λ ends. idle _ _ _ _ _ _ refl) (λ ends. idle _ _ _ _ _ _ refl) (λ ends. idle _ _ _ _ _ _ refl) (λ ends. idle _ _ _ _ _ _ refl))

pub returns-clause-never_died : goal.returns-clause-never_died
unfolding on_samples
returns-clause-never_died c k plan =
    let run = kept k plan 3 of_none ordered (starts 0 2 ask false ∷ []) in
    let first = (all_eight run 0
    (λ ends. idle _ _ _ _ _ _ refl) (λ ends. idle _ _ _ _ _ _ refl) (λ ends. idle _ _ _ _ _ _ refl) (λ ends. idle _ _ _ _ _ _ refl)
    (λ ends. idle _ _ _ _ _ _ refl) (λ ends. idle _ _ _ _ _ _ refl) (λ ends. idle _ _ _ _ _ _ refl) (λ ends. idle _ _ _ _ _ _ refl)) in
    let second = (all_eight run 1
    (λ ends. idle _ _ _ _ _ _ refl) (λ ends. idle _ _ _ _ _ _ refl) (λ ends. idle _ _ _ _ _ _ refl) (λ ends. idle _ _ _ _ _ _ refl)
    (λ ends. idle _ _ _ _ _ _ refl) (λ ends. idle _ _ _ _ _ _ refl) (λ ends. idle _ _ _ _ _ _ refl) (λ ends. idle _ _ _ _ _ _ refl)) in
    record {
      reading = 20000;
      low = omega arith;
      ticks = (omega arith, (refl, refl), refl);
      passed_over = λ h. ⊎_elim (λ t. let holder = t.1 in absurd (cc)) (λ n. n)
          (h.taken ask 1 0 (inl refl) (inl (refl, (refl, inl (refl, refl)))) refl refl (omega arith) refl refl);
      before = λ cub beat reading low ticks comes. ⊎_elim
          (λ (l : beat < 2). passes_before_two run cub beat reading first second low l ticks)
          (λ e. let none = e.1 in absurd (omega (arith, none))) comes;
      place = refl;
    }
