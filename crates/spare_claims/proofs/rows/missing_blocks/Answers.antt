use Rattle.std.proofs.Common.{◌≡◌, refl, ⊎_elim, inr, arith}
use Rattle.std.proofs.lemmas.Bool.{false≢true}
use Rattle.slot_plan.specs.Samples.{small}
use Rattle.disk_death.specs.Deaths.{death_of_disk}
use Rattle.run_model.proofs.OnSamples.{on_samples, to-test}
use Rattle.spare_claims.proofs.Excuses.{excused-by-test, excused-to-test}
use Rattle.spare_claims.proofs.rows.missing_blocks.Goals as goal

pub returns-clause-none : goal.returns-clause-none
unfolding on_samples death_of_disk
returns-clause-none c s h =
    ⊎_elim (λ d. false≢true (to-test s _ d)) (λ x. false≢true (excused-to-test small _ _ 0 0 x))
    (h.settled.0 0 (omega arith) (omega arith) (omega arith))

pub returns-clause-of_living : goal.returns-clause-of_living
unfolding on_samples death_of_disk
returns-clause-of_living c s = record {
  settled = (
    (λ n first last end. let e : n ≡ 0 = omega (arith, last) in rw e (inr (excused-by-test small _ _ 0 0 refl))),
    (tt, tt),
  );
  got = ((λ n. absurd (omega (arith, n))), ((λ n. absurd (omega (arith, n))), tt));
}

pub returns-clause-of_dead : goal.returns-clause-of_dead
unfolding on_samples death_of_disk
returns-clause-of_dead c s h =
    ⊎_elim (λ d. false≢true (to-test s _ d)) (λ x. false≢true (excused-to-test small _ _ 0 0 x))
    (h.settled.0 0 (omega arith) (omega arith) (omega arith))

pub returns-clause-just_dead : goal.returns-clause-just_dead
unfolding on_samples death_of_disk
returns-clause-just_dead c s = record {
  settled = (
    (λ n first last end. let e : n ≡ 0 = omega (arith, last) in rw e (inr (excused-by-test small _ _ 0 0 refl))),
    (tt, tt),
  );
  got = ((λ n. absurd (omega (arith, n))), ((λ n. absurd (omega (arith, n))), tt));
}

pub returns-clause-piece : goal.returns-clause-piece
unfolding on_samples death_of_disk
returns-clause-piece c s = record {
  settled = (
    (λ n first last end. let e : n ≡ 0 = omega (arith, last) in rw e (inr (excused-by-test small _ _ 0 0 refl))),
    (tt, tt),
  );
  got = ((λ n. absurd (omega (arith, n))), ((λ n. absurd (omega (arith, n))), tt));
}

pub returns-clause-stopped : goal.returns-clause-stopped
unfolding on_samples death_of_disk
returns-clause-stopped c s = record {
  settled = (
    (λ n first last end. let e : n ≡ 0 = omega (arith, last) in rw e (inr (excused-by-test small _ _ 0 0 refl))),
    (tt, tt),
  );
  got = ((λ n. absurd (omega (arith, n))), ((λ n. absurd (omega (arith, n))), tt));
}
