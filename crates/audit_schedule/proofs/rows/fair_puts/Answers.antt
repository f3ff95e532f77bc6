use Rattle.std.proofs.Common.{ℕ, zero, suc, ◌≤◌, [], ◌∷◌, take, refl, inl, arith}
use Rattle.std.proofs.lemmas.Bool.{false≢true}
use Rattle.slot_plan.specs.Samples.{small}
use Rattle.run_model.specs.Orders.{PutsAreFair}
use Rattle.run_model.specs.Samples.{put, later, three, ask, ordered}
use Rattle.run_model.proofs.OnSamples.{on_samples}
use Rattle.audit_schedule.proofs.rows.fair_puts.Goals as goal

-- one Put, behind which nothing of the schedule comes
one_put : PutsAreFair small ordered (put 0 1 three ∷ [])
unfolding on_samples
one_put = (
  record {
    free = λ t e. absurd (cc);
    rightly = record {
      ask = ask;
      ordered = inl refl;
      asked = record { instance = refl; file = refl; count = omega arith; disk = refl };
      slot = omega arith;
      window = refl;
      cub = inl refl;
      once = omega arith;
    };
  },
  tt,
)

pub returns-clause-fair : goal.returns-clause-fair
unfolding on_samples
returns-clause-fair c = (
  record {
    free = λ t e. absurd (cc);
    rightly = record {
      ask = ask;
      ordered = inl refl;
      asked = record { instance = refl; file = refl; count = omega arith; disk = refl };
      slot = omega arith;
      window = refl;
      cub = inl refl;
      once = omega arith;
    };
  },
  (tt, tt),
)

late_fronts : (j : ℕ) → j ≤ 1 → PutsAreFair small ordered (take j (later 1 ∷ put 0 30 three ∷ later 31 ∷ []))
late_fronts zero h = tt
late_fronts (suc zero) h = (tt, tt)
late_fronts (suc (suc j)) h = absurd (omega (arith, h))

pub returns-clause-late : goal.returns-clause-late
unfolding on_samples
returns-clause-late c = record {
  inside = omega arith;
  before = late_fronts;
  with_it = λ h. false≢true h.1.0.rightly.window;
  whole = λ h. false≢true h.1.0.rightly.window;
}

twice_fronts : (j : ℕ) → j ≤ 1 → PutsAreFair small ordered (take j (put 0 1 three ∷ put 0 1 three ∷ []))
twice_fronts zero h = tt
twice_fronts (suc zero) h = one_put
twice_fronts (suc (suc j)) h = absurd (omega (arith, h))

pub returns-clause-twice : goal.returns-clause-twice
unfolding on_samples
returns-clause-twice c = record {
  inside = omega arith;
  before = twice_fronts;
  with_it = λ h. let once = h.0.rightly.once in omega (arith, once);
  whole = λ h. let once = h.0.rightly.once in omega (arith, once);
}

pub returns-clause-not_the_first : goal.returns-clause-not_the_first
returns-clause-not_the_first c h = h.with_it one_put
