use Rattle.std.proofs.Common.{◌≡◌, ℕ, zero, suc, ◌≤◌, [], ◌∷◌, take, refl, ap, ⊎_elim, inl, arith}
use Rattle.std.proofs.lemmas.Bool.{false≢true}
use Rattle.tiger_base.specs.declared.tenancy.Tenancy.{Tenancy}
use Rattle.tiger_base.specs.Records.{own_of}
use Rattle.slot_plan.specs.Samples.{small}
use Rattle.run_model.specs.Parts.{ViewsAreAlwaysPart}
use Rattle.run_model.specs.Samples.{put, later, seat, three, took}
use Rattle.run_model.proofs.OnSamples.{on_samples, of-eight}
use Rattle.audit_views.proofs.rows.seats.Goals as goal

in_place : ViewsAreAlwaysPart small (put 0 1 three ∷ took 0 1 (own_of three 0) ∷ [])
unfolding on_samples
in_place = (of-eight _ tt tt tt tt tt tt tt tt, (of-eight _ tt tt tt tt tt tt tt tt, of-eight _ (inl (record { holder = refl; first = omega arith; last = omega arith }), tt) tt tt tt tt tt tt tt))

pub returns-clause-in_place : goal.returns-clause-in_place
returns-clause-in_place c = in_place

nothing : ViewsAreAlwaysPart small []
unfolding on_samples
nothing = of-eight _ tt tt tt tt tt tt tt tt

never_put : ViewsAreAlwaysPart small (took 0 1 (own_of three 0) ∷ []) → ⊥
unfolding on_samples
never_put h = ⊎_elim (λ v. let holder = v.holder in absurd (cc)) (λ n. false≢true n) (h.1 0 (omega arith)).0

never_put_at_all : ViewsAreAlwaysPart small (took 0 1 (own_of three 0) ∷ later 2 ∷ []) → ⊥
unfolding on_samples
never_put_at_all h = ⊎_elim (λ v. let holder = v.holder in absurd (cc)) (λ n. false≢true n) (h.1.0 0 (omega arith)).0

none_yet : (j : ℕ) → j ≤ 0 → ViewsAreAlwaysPart small (take j (took 0 1 (own_of three 0) ∷ later 2 ∷ []))
none_yet zero h = nothing
none_yet (suc j) h = absurd (omega (arith, h))

pub returns-clause-never_put : goal.returns-clause-never_put
returns-clause-never_put c = record {
  inside = omega arith;
  before = none_yet;
  with_it = never_put;
  whole = never_put_at_all;
}

put_alone : ViewsAreAlwaysPart small (put 0 1 three ∷ [])
unfolding on_samples
put_alone = (of-eight _ tt tt tt tt tt tt tt tt, of-eight _ tt tt tt tt tt tt tt tt)

before_other : (j : ℕ) → j ≤ 2 → ViewsAreAlwaysPart small (take j (put 0 1 three ∷ took 0 1 (own_of three 0) ∷ put 0 1 (seat 1 3 5) ∷ []))
before_other zero h = nothing
before_other (suc zero) h = put_alone
before_other (suc (suc zero)) h = in_place
before_other (suc (suc (suc j))) h = absurd (omega (arith, h))

put_out : ViewsAreAlwaysPart small (put 0 1 three ∷ took 0 1 (own_of three 0) ∷ put 0 1 (seat 1 3 5) ∷ []) → ⊥
unfolding on_samples
put_out h = ⊎_elim
    (λ v.
    let holder = v.holder in
    let same : seat 1 3 5 ≡ three = cc in
    let one : 1 ≡ 0 = ap (λ (t : Tenancy). t.instance.0) same in
    omega (arith, one))
    (λ n. false≢true n) (h.1.1.1 0 (omega arith)).0

pub returns-clause-put_out : goal.returns-clause-put_out
returns-clause-put_out c = record {
  inside = omega arith;
  before = before_other;
  with_it = put_out;
  whole = put_out;
}
