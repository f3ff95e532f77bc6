use Rattle.std.proofs.Common.{ℕ, zero, suc, ◌≤◌, [], ◌∷◌, take, arith}
use Rattle.slot_plan.specs.Samples.{small}
use Rattle.slot_plan.specs.Times.{cub_of}
use Rattle.run_model.specs.Moments.{next_moment}
use Rattle.run_model.specs.Samples.{dies, want, asks}
use Rattle.run_claims.specs.Visits.{AreServedOnce}
use Rattle.audit_visits.proofs.rows.deaths.Goals as goal

another_fronts : (j : ℕ) → j ≤ 1 → AreServedOnce small (take j (dies 1 30 ∷ asks 1 40 (want 0 0 1) ∷ []))
another_fronts zero h = record { instance = tt; ask = tt; dead = tt }
another_fronts (suc zero) h = record { instance = tt; ask = (tt, tt); dead = (tt, tt) }
another_fronts (suc (suc j)) h = absurd (omega (arith, h))

pub returns-clause-of_another : goal.returns-clause-of_another
unfolding next_moment cub_of
returns-clause-of_another c = record {
  inside = omega arith;
  before = another_fronts;
  with_it = λ h. let died = h.dead.1.0 (omega arith) in absurd (cc);
  whole = λ h. let died = h.dead.1.0 (omega arith) in absurd (cc);
}

later_fronts : (j : ℕ) → j ≤ 0 → AreServedOnce small (take j (asks 1 40 (want 0 0 1) ∷ dies 0 41 ∷ []))
later_fronts zero h = record { instance = tt; ask = tt; dead = tt }
later_fronts (suc j) h = absurd (omega (arith, h))

pub returns-clause-dies_later : goal.returns-clause-dies_later
unfolding cub_of
returns-clause-dies_later c = record {
  inside = omega arith;
  before = later_fronts;
  with_it = λ h. let died = h.dead.0 (omega arith) in absurd (cc);
  whole = λ h. let died = h.dead.0 (omega arith) in absurd (cc);
}
