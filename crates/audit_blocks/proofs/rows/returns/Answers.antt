use Rattle.std.proofs.Common.{◌≡◌, [], ◌∷◌, refl, ⊎_elim, inr, arith}
use Rattle.std.proofs.lemmas.Bool.{cases_eq, false≢true}
use Rattle.slot_plan.specs.Samples.{small}
use Rattle.run_model.specs.Samples.{all, is_back, dies, fails, put, seat, ten, want}
use Rattle.run_model.proofs.Deliveries.{delivered}
use Rattle.run_model.proofs.OnSamples.{on_samples, excuse-by-test, excuse-to-test}
use Rattle.audit_blocks.proofs.rows.returns.Goals as goal

pub returns-clause-too_late : goal.returns-clause-too_late
unfolding on_samples
returns-clause-too_late c s = (
  record {
    served = λ n first last end. ⊎_elim
        (λ (e : n ≡ 16). rw e (inr (excuse-by-test 16 _ refl)))
        (λ (ne : n ≡ 16 → ⊥). let e : n ≡ 17 = omega (arith, first, last, ne) in rw e (inr (excuse-by-test 17 _ refl)))
        (cases_eq n 16);
    of_put = λ n. tt;
  },
  (
    record { served = tt; of_put = λ n. tt },
    (
      record { served = tt; of_put = λ n. tt },
      (record { served = tt; of_put = λ n. tt }, (record { served = tt; of_put = λ n. tt }, tt)),
    ),
  ),
)

pub returns-clause-in_time : goal.returns-clause-in_time
unfolding on_samples
returns-clause-in_time c s =
    let journals = all (put 0 1 (seat 0 16 17) ∷ dies 1 100 ∷ is_back 1 750 ∷ fails 0 1640 (want 0 16 0) ∷ fails 2 1740 (want 0 17 1) ∷ []) in
    record {
      before = tt;
      entry = _;
      there = refl;
      fails = λ e. ⊎_elim
          (λ d. false≢true ((delivered small (ten s) journals 0 17).1 d))
          (λ x. false≢true (excuse-to-test 17 journals x))
          (e.served 17 (omega arith) (omega arith) (omega arith));
    }
