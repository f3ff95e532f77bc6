use Rattle.std.proofs.Common.{◌≡◌, ◌∷◌, [], refl, ⊎_elim, inl, arith}
use Rattle.std.proofs.lemmas.Bool.{false≢true}
use Rattle.slot_plan.specs.Samples.{small}
use Rattle.disk_death.specs.Deaths.{death_of_disk}
use Rattle.run_model.specs.Samples.{ten, all, gets, piece, seat, want, bytes}
use Rattle.run_model.proofs.OnSamples.{on_samples, by-test, to-test}
use Rattle.run_claims.proofs.Fits.{passes-for-some}
use Rattle.spare_claims.proofs.Excuses.{excused-to-test}
use Rattle.spare_claims.proofs.rows.delivery.Goals as goal

pub returns-clause-whole : goal.returns-clause-whole
unfolding on_samples
returns-clause-whole c s = record {
  settled = (
    (λ n first last end. let e : n ≡ 0 = omega (arith, last) in rw e (inl (by-test s _ refl))),
    (tt, (tt, tt)),
  );
  got = (
    (λ n. absurd (omega (arith, n))),
    (
      (λ n. absurd (omega (arith, n))),
      (
        (λ n. (
          refl,
          record {
            tenancy = seat 0 0 0;
            visited = record { put = inl (inl refl); instance = refl; first = omega arith; last = omega arith };
            wanted = refl;
            block = record { disk = record { 0 = 0 }; span = bytes 0 4 };
            place = refl;
            span = refl;
          },
        )),
        tt,
      ),
    ),
  );
}

pub returns-clause-pieces : goal.returns-clause-pieces
unfolding on_samples
returns-clause-pieces c s = record {
  settled = (
    (λ n first last end. let e : n ≡ 0 = omega (arith, last) in rw e (inl (by-test s _ refl))),
    (tt, (tt, (tt, (tt, tt)))),
  );
  got = (
    (λ n. absurd (omega (arith, n))),
    (
      (λ n. absurd (omega (arith, n))),
      (
        (λ n. (
          omega arith,
          (
            omega arith,
            record {
              tenancy = seat 0 0 0;
              visited = record { put = inl (inl refl); instance = refl; first = omega arith; last = omega arith };
              wanted = refl;
              block = record { disk = record { 0 = 0 }; span = bytes 0 4 };
              place = refl;
              span = refl;
            },
          ),
        )),
        (
          (λ n. absurd (omega (arith, n))),
          (
            (λ n. (
              omega arith,
              (
                omega arith,
                record {
                  tenancy = seat 0 0 0;
                  visited = record { put = inl (inl refl); instance = refl; first = omega arith; last = omega arith };
                  wanted = refl;
                  block = record { disk = record { 0 = 0 }; span = bytes 0 4 };
                  place = refl;
                  span = refl;
                },
              ),
            )),
            tt,
          ),
        ),
      ),
    ),
  );
}

pub returns-clause-one_piece : goal.returns-clause-one_piece
unfolding on_samples death_of_disk
returns-clause-one_piece c s h =
    ⊎_elim (λ d. false≢true (to-test s _ d)) (λ x. false≢true (excused-to-test small _ _ 0 0 x))
    (h.settled.0 0 (omega arith) (omega arith) (omega arith))

pub returns-clause-unsettled : goal.returns-clause-unsettled
unfolding on_samples
returns-clause-unsettled c s = record {
  settled = ((λ n first last end. absurd (omega (arith, end))), tt);
  got = ((λ n. absurd (omega (arith, n))), tt);
}

pub returns-clause-never_put : goal.returns-clause-never_put
returns-clause-never_put c s h =
    let journals = all (gets 1 51 (piece 0 0 1 50 0 2) ∷ []) in
    false≢true (passes-for-some small (ten s) journals (want 0 0 1) (bytes 0 2) (h.got.0 refl).1.1)
