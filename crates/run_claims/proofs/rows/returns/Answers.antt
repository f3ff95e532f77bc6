use Rattle.std.proofs.Common.{◌≡◌, ℕ, refl, ⊎_elim, inr, arith}
use Rattle.std.proofs.lemmas.Bool.{false≢true, cases_eq}
use Rattle.slot_plan.specs.Samples.{small}
use Rattle.run_model.specs.Samples.{ten}
use Rattle.run_model.proofs.Deliveries.{delivered}
use Rattle.run_model.proofs.OnSamples.{on_samples, excuse-by-test, excuse-to-test}
use Rattle.run_claims.proofs.rows.returns.Goals as goal

pub returns-clause-too_late : goal.returns-clause-too_late
unfolding on_samples
returns-clause-too_late c s =
    record {
      settled = (
        (λ n first last end. ⊎_elim
            (λ (e : n ≡ 16). rw e (inr (excuse-by-test 16 _ refl)))
            (λ (ne : n ≡ 16 → ⊥). let e : n ≡ 17 = omega (arith, first, last, ne) in rw e (inr (excuse-by-test 17 _ refl)))
            (cases_eq n 16)),
        (tt, (tt, (tt, (tt, tt)))),
      );
      got = (
        (λ n. absurd (omega (arith, n))),
        (
          (λ n. absurd (omega (arith, n))),
          (
            (λ n. absurd (omega (arith, n))),
            ((λ n. absurd (omega (arith, n))), ((λ n. absurd (omega (arith, n))), tt)),
          ),
        ),
      );
    }

pub returns-clause-in_time : goal.returns-clause-in_time
unfolding on_samples
returns-clause-in_time c s h =
    ⊎_elim (λ d. false≢true ((delivered small (ten s) _ 0 17).1 d)) (λ x. false≢true (excuse-to-test 17 _ x))
    (h.settled.0 17 (omega arith) (omega arith) (omega arith))
