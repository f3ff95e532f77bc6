use Rattle.std.proofs.Common.{ℕ, zero, suc, ◌≤◌, [], ◌∷◌, take, refl, ⊎_elim, inl, arith}
use Rattle.slot_plan.specs.Samples.{small}
use Rattle.slot_plan.specs.Times.{disk_of}
use Rattle.mirror_pieces.specs.Pieces.{piece_disk}
use Rattle.run_model.specs.Moments.{next_moment}
use Rattle.run_model.specs.Samples.{asked, fails, later, want}
use Rattle.run_claims.specs.Samples.{faulty}
use Rattle.run_claims.specs.Truths.{FailuresAreTrue}
use Rattle.audit_schedule.proofs.rows.failures.Goals as goal

pub returns-clause-in_a_fault : goal.returns-clause-in_a_fault
unfolding next_moment disk_of piece_disk
returns-clause-in_a_fault c = (tt, (inl (refl, inl (refl, omega arith, omega arith)), tt))

fronts : (j : ℕ) → j ≤ 1
    → FailuresAreTrue small (faulty 0 ∷ []) (take j (asked 0 43 (want 0 0 0) ∷ fails 0 44 (want 0 0 0) ∷ later 45 ∷ []))
fronts zero h = tt
fronts (suc zero) h = (tt, tt)
fronts (suc (suc j)) h = absurd (omega (arith, h))

pub returns-clause-behind_it : goal.returns-clause-behind_it
unfolding next_moment disk_of piece_disk
returns-clause-behind_it c = record {
  inside = omega arith;
  before = fronts;
  with_it = λ h. ⊎_elim (λ f. ⊎_elim (λ lasts. let until = lasts.2 in omega (arith, until)) (λ n. n) f.1) (λ n. n) h.1.0;
  whole = λ h. ⊎_elim (λ f. ⊎_elim (λ lasts. let until = lasts.2 in omega (arith, until)) (λ n. n) f.1) (λ n. n) h.1.0;
}
