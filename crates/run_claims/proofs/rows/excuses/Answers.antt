use Rattle.std.proofs.Common.{◌≡◌, refl, ⊎_elim, inr, arith}
use Rattle.std.proofs.lemmas.Bool.{false≢true}
use Rattle.run_model.proofs.OnSamples.{on_samples, to-test, excuse-by-test, excuse-to-test}
use Rattle.run_claims.proofs.rows.excuses.Goals as goal

pub returns-clause-stopped : goal.returns-clause-stopped
unfolding on_samples
returns-clause-stopped c s =
    record {
      settled = (
        (λ n first last end. let e : n ≡ 0 = omega (arith, last) in rw e (inr (excuse-by-test 0 _ refl))),
        (tt, tt),
      );
      got = ((λ n. absurd (omega (arith, n))), ((λ n. absurd (omega (arith, n))), tt));
    }

pub returns-clause-stopped_late : goal.returns-clause-stopped_late
unfolding on_samples
returns-clause-stopped_late c s h =
    ⊎_elim (λ d. false≢true (to-test s _ d)) (λ x. false≢true (excuse-to-test 0 _ x))
    (h.settled.0 0 (omega arith) (omega arith) (omega arith))

pub returns-clause-other_stopped : goal.returns-clause-other_stopped
unfolding on_samples
returns-clause-other_stopped c s h =
    ⊎_elim (λ d. false≢true (to-test s _ d)) (λ x. false≢true (excuse-to-test 0 _ x))
    (h.settled.0 0 (omega arith) (omega arith) (omega arith))
