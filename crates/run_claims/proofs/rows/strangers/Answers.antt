use Rattle.std.proofs.Common.{◌∷◌, [], refl, inl, arith}
use Rattle.std.proofs.lemmas.Bool.{false≢true}
use Rattle.slot_plan.specs.Samples.{small}
use Rattle.run_model.specs.Samples.{ten, all, block, seated, want, bytes, gets, seat}
use Rattle.run_model.proofs.OnSamples.{on_samples}
use Rattle.run_claims.proofs.Fits.{passes-for-some}
use Rattle.run_claims.proofs.rows.strangers.Goals as goal

pub returns-clause-piece : goal.returns-clause-piece
unfolding on_samples
returns-clause-piece c s = record {
  settled = ((λ n first last end. absurd (omega (arith, end))), (tt, tt));
  got = (
    (λ n. absurd (omega (arith, n))),
    (
      (λ n. (
        omega arith,
        (
          omega arith,
          record {
            tenancy = seat 0 0 0;
            visited = record { put = inl (inl refl); instance = refl; first = omega arith; last = omega arith };
            wanted = refl;
            block = record { disk = record { 0 = 0 }; span = bytes 0 4 };
            place = refl;
            span = refl;
          },
        ),
      )),
      tt,
    ),
  );
}

pub returns-clause-short : goal.returns-clause-short
unfolding on_samples
returns-clause-short c s h =
    let journals = all (seated ∷ gets 0 51 (block 0 0 50 0 3) ∷ []) in
    false≢true (passes-for-some small (ten s) journals (want 0 0 0) (bytes 0 3) (h.got.1.0 refl).1)

pub returns-clause-never_put : goal.returns-clause-never_put
returns-clause-never_put c s h =
    let journals = all (gets 0 51 (block 0 0 50 0 4) ∷ []) in
    false≢true (passes-for-some small (ten s) journals (want 0 0 0) (bytes 0 4) (h.got.0 refl).1)

pub returns-clause-other_visit : goal.returns-clause-other_visit
returns-clause-other_visit c s h =
    let journals = all (seated ∷ gets 1 151 (block 0 1 150 4 4) ∷ []) in
    false≢true (passes-for-some small (ten s) journals (want 0 1 0) (bytes 4 4) (h.got.1.0 refl).1)

pub returns-clause-third_piece : goal.returns-clause-third_piece
returns-clause-third_piece c s h = let number = (h.got.1.0 refl).1.0 in omega (arith, number)

pub returns-clause-numbered : goal.returns-clause-numbered
returns-clause-numbered c s h = let number = (h.got.1.0 refl).0 in omega (arith, number)
