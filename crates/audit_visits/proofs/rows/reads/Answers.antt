use Rattle.std.proofs.Common.{ℕ, zero, suc, ◌≤◌, [], ◌∷◌, take, refl, arith}
use Rattle.slot_plan.specs.Samples.{small}
use Rattle.slot_plan.specs.Times.{cub_of}
use Rattle.run_model.specs.Moments.{next_moment}
use Rattle.run_model.specs.Samples.{later, dies, want, asks}
use Rattle.run_claims.specs.Visits.{AreServedOnce}
use Rattle.audit_visits.proofs.rows.reads.Goals as goal

pub returns-clause-once : goal.returns-clause-once
unfolding next_moment cub_of
returns-clause-once c = record {
  instance = (((λ s n. refl), tt), tt);
  ask = (omega arith, (tt, (tt, (omega arith, (omega arith, tt)))));
  dead = ((λ l. absurd (omega (arith, l))), (tt, (tt, ((λ l. refl), ((λ l. refl), tt)))));
}

one_ask : AreServedOnce small (asks 0 40 (want 0 0 0) ∷ [])
one_ask = record { instance = tt; ask = (omega arith, tt); dead = ((λ l. absurd (omega (arith, l))), tt) }

twice_fronts : (j : ℕ) → j ≤ 2
    → AreServedOnce small (take j (asks 0 40 (want 0 0 0) ∷ later 41 ∷ asks 0 42 (want 1 0 0) ∷ []))
twice_fronts zero h = record { instance = tt; ask = tt; dead = tt }
twice_fronts (suc zero) h = one_ask
twice_fronts (suc (suc zero)) h =
    record { instance = tt; ask = (omega arith, (tt, tt)); dead = ((λ l. absurd (omega (arith, l))), (tt, tt)) }
twice_fronts (suc (suc (suc j))) h = absurd (omega (arith, h))

pub returns-clause-twice : goal.returns-clause-twice
returns-clause-twice c = record {
  inside = omega arith;
  before = twice_fronts;
  with_it = λ h. let count = h.ask.0 in omega (arith, count);
  whole = λ h. let count = h.ask.0 in omega (arith, count);
}

piece_fronts : (j : ℕ) → j ≤ 2
    → AreServedOnce small (take j (dies 0 30 ∷ asks 1 40 (want 0 0 1) ∷ asks 1 41 (want 0 0 1) ∷ later 42 ∷ []))
unfolding next_moment cub_of
piece_fronts zero h = record { instance = tt; ask = tt; dead = tt }
piece_fronts (suc zero) h = record { instance = tt; ask = (tt, tt); dead = (tt, tt) }
piece_fronts (suc (suc zero)) h = record { instance = tt; ask = (tt, (omega arith, tt)); dead = (tt, ((λ l. refl), tt)) }
piece_fronts (suc (suc (suc j))) h = absurd (omega (arith, h))

pub returns-clause-piece_twice : goal.returns-clause-piece_twice
returns-clause-piece_twice c = record {
  inside = omega arith;
  before = piece_fronts;
  with_it = λ h. let count = h.ask.1.0 in omega (arith, count);
  whole = λ h. let count = h.ask.1.0 in omega (arith, count);
}

pub returns-clause-not_the_first : goal.returns-clause-not_the_first
returns-clause-not_the_first c h = h.with_it one_ask
