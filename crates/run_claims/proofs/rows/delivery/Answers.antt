use Rattle.std.proofs.Common.{◌≡◌, refl, ⊎_elim, inl, arith}
use Rattle.std.proofs.lemmas.Bool.{false≢true}
use Rattle.run_model.proofs.OnSamples.{on_samples, by-test, to-test, excuse-to-test}
use Rattle.run_model.specs.Samples.{bytes, seat}
use Rattle.run_claims.proofs.rows.delivery.Goals as goal

pub returns-clause-comes : goal.returns-clause-comes
unfolding on_samples
returns-clause-comes c s =
    record {
      settled = (
        (λ n first last end. let e : n ≡ 0 = omega (arith, last) in rw e (inl (by-test s _ refl))),
        (tt, (tt, tt)),
      );
      got = (
        (λ n. absurd (omega (arith, n))),
        (
          (λ n. absurd (omega (arith, n))),
          (
            (λ n. (
              refl,
              record {
                tenancy = seat 0 0 0;
                visited = record { put = inl (inl refl); instance = refl; first = omega arith; last = omega arith };
                wanted = refl;
                block = record { disk = record { 0 = 0 }; span = bytes 0 4 };
                place = refl;
                span = refl;
              },
            )),
            tt,
          ),
        ),
      );
    }

pub returns-clause-missing : goal.returns-clause-missing
unfolding on_samples
returns-clause-missing c s h =
    ⊎_elim (λ d. false≢true (to-test s _ d)) (λ x. false≢true (excuse-to-test 0 _ x))
    (h.settled.0 0 (omega arith) (omega arith) (omega arith))

pub returns-clause-unsettled : goal.returns-clause-unsettled
unfolding on_samples
returns-clause-unsettled c s = record {
  settled = ((λ n first last end. absurd (omega (arith, end))), tt);
  got = ((λ n. absurd (omega (arith, n))), tt);
}
