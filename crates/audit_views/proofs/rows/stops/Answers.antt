use Rattle.std.proofs.Common.{ℕ, zero, suc, ◌≤◌, [], ◌∷◌, take, refl, ⊎_elim, inr, arith}
use Rattle.std.proofs.lemmas.Bool.{false≢true}
use Rattle.tiger_base.specs.Records.{own_of}
use Rattle.slot_plan.specs.Samples.{small}
use Rattle.run_model.specs.Parts.{ViewsAreAlwaysPart}
use Rattle.run_model.specs.Samples.{later, three, gone, took}
use Rattle.run_model.proofs.OnSamples.{on_samples, of-eight}
use Rattle.audit_views.proofs.rows.stops.Goals as goal

in_time : ViewsAreAlwaysPart small (gone 20 0 ∷ took 0 120 (own_of three 0) ∷ [])
unfolding on_samples
in_time = (of-eight _ tt tt tt tt tt tt tt tt, (of-eight _ tt tt tt tt tt tt tt tt, of-eight _ (inr refl, tt) tt tt tt tt tt tt tt))

pub returns-clause-in_time : goal.returns-clause-in_time
returns-clause-in_time c = in_time

nothing : ViewsAreAlwaysPart small []
unfolding on_samples
nothing = of-eight _ tt tt tt tt tt tt tt tt

gone_alone : ViewsAreAlwaysPart small (gone 20 0 ∷ [])
unfolding on_samples
gone_alone = (of-eight _ tt tt tt tt tt tt tt tt, of-eight _ tt tt tt tt tt tt tt tt)

before_the_end : (j : ℕ) → j ≤ 2 → ViewsAreAlwaysPart small (take j (gone 20 0 ∷ took 0 120 (own_of three 0) ∷ later 121 ∷ []))
before_the_end zero h = nothing
before_the_end (suc zero) h = gone_alone
before_the_end (suc (suc zero)) h = in_time
before_the_end (suc (suc (suc j))) h = absurd (omega (arith, h))

runs_out : ViewsAreAlwaysPart small (gone 20 0 ∷ took 0 120 (own_of three 0) ∷ later 121 ∷ []) → ⊥
unfolding on_samples
runs_out h = ⊎_elim (λ v. let holder = v.holder in absurd (cc)) (λ n. false≢true n) (h.1.1.1 0 (omega arith)).0

pub returns-clause-runs_out : goal.returns-clause-runs_out
returns-clause-runs_out c = record {
  inside = omega arith;
  before = before_the_end;
  with_it = runs_out;
  whole = runs_out;
}

before_it : (j : ℕ) → j ≤ 1 → ViewsAreAlwaysPart small (take j (gone 20 0 ∷ took 0 121 (own_of three 0) ∷ later 122 ∷ []))
before_it zero h = nothing
before_it (suc zero) h = gone_alone
before_it (suc (suc j)) h = absurd (omega (arith, h))

too_late : ViewsAreAlwaysPart small (gone 20 0 ∷ took 0 121 (own_of three 0) ∷ []) → ⊥
unfolding on_samples
too_late h = ⊎_elim (λ v. let holder = v.holder in absurd (cc)) (λ n. false≢true n) (h.1.1 0 (omega arith)).0

too_late_at_all : ViewsAreAlwaysPart small (gone 20 0 ∷ took 0 121 (own_of three 0) ∷ later 122 ∷ []) → ⊥
unfolding on_samples
too_late_at_all h = ⊎_elim (λ v. let holder = v.holder in absurd (cc)) (λ n. false≢true n) (h.1.1.0 0 (omega arith)).0

pub returns-clause-too_late : goal.returns-clause-too_late
returns-clause-too_late c = record {
  inside = omega arith;
  before = before_it;
  with_it = too_late;
  whole = too_late_at_all;
}
