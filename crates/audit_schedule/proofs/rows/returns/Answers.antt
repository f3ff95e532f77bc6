use Rattle.std.proofs.Common.{ℕ, zero, suc, ◌≤◌, [], ◌∷◌, take, refl, arith}
use Rattle.tiger_base.specs.Records.{own_of}
use Rattle.slot_plan.specs.Samples.{small}
use Rattle.slot_plan.specs.Times.{time_of}
use Rattle.run_model.specs.Moments.{next_moment}
use Rattle.run_model.specs.Schedule.{after_entry}
use Rattle.run_model.specs.Samples.{gone, took, later, three}
use Rattle.run_claims.specs.Returns.{NobodyComesBack}
use Rattle.audit_schedule.proofs.rows.returns.Goals as goal

pub returns-clause-in_time : goal.returns-clause-in_time
unfolding next_moment after_entry time_of
returns-clause-in_time c = (tt, (((λ e. omega arith), tt), tt))

late_fronts : (j : ℕ) → j ≤ 1 → NobodyComesBack small (take j (gone 10 0 ∷ took 0 111 (own_of three 0) ∷ later 112 ∷ []))
late_fronts zero h = tt
late_fronts (suc zero) h = (tt, tt)
late_fronts (suc (suc j)) h = absurd (omega (arith, h))

pub returns-clause-late : goal.returns-clause-late
unfolding next_moment after_entry time_of
returns-clause-late c = record {
  inside = omega arith;
  before = late_fronts;
  with_it = λ h. let late = h.1.0.0 refl in omega (arith, late);
  whole = λ h. let late = h.1.0.0 refl in omega (arith, late);
}

two_fronts : (j : ℕ) → j ≤ 2 → NobodyComesBack small (take j (gone 10 0 ∷ gone 20 0 ∷ took 0 111 (own_of three 0) ∷ []))
two_fronts zero h = tt
two_fronts (suc zero) h = (tt, tt)
two_fronts (suc (suc zero)) h = (tt, (tt, tt))
two_fronts (suc (suc (suc j))) h = absurd (omega (arith, h))

pub returns-clause-after_the_first_stop : goal.returns-clause-after_the_first_stop
unfolding next_moment after_entry time_of
returns-clause-after_the_first_stop c = record {
  inside = omega arith;
  before = two_fronts;
  with_it = λ h. let late = h.1.1.0.0 refl in omega (arith, late);
  whole = λ h. let late = h.1.1.0.0 refl in omega (arith, late);
}
