use Rattle.std.proofs.Common.{ℕ, zero, suc, ◌≤◌, [], ◌∷◌, take, refl, arith}
use Rattle.run_model.specs.Moments.{next_moment}
use Rattle.run_model.specs.Samples.{dies, believes}
use Rattle.run_claims.specs.Truths.{BeliefsAreTrue}
use Rattle.audit_schedule.proofs.rows.beliefs.Goals as goal

pub returns-clause-of_the_dead : goal.returns-clause-of_the_dead
unfolding next_moment
returns-clause-of_the_dead c = (tt, (refl, tt))

soon_fronts : (j : ℕ) → j ≤ 0 → BeliefsAreTrue (take j (believes 1 29 0 ∷ dies 0 30 ∷ []))
soon_fronts zero h = tt
soon_fronts (suc j) h = absurd (omega (arith, h))

pub returns-clause-too_soon : goal.returns-clause-too_soon
returns-clause-too_soon c = record {
  inside = omega arith;
  before = soon_fronts;
  with_it = λ h. let died = h.0 in absurd (cc);
  whole = λ h. let died = h.0 in absurd (cc);
}

other_fronts : (j : ℕ) → j ≤ 1 → BeliefsAreTrue (take j (dies 2 30 ∷ believes 1 150 0 ∷ []))
other_fronts zero h = tt
other_fronts (suc zero) h = (tt, tt)
other_fronts (suc (suc j)) h = absurd (omega (arith, h))

pub returns-clause-of_another : goal.returns-clause-of_another
unfolding next_moment
returns-clause-of_another c = record {
  inside = omega arith;
  before = other_fronts;
  with_it = λ h. let died = h.1.0 in absurd (cc);
  whole = λ h. let died = h.1.0 in absurd (cc);
}
