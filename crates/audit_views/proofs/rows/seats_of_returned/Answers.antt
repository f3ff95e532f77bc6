use Rattle.std.proofs.Common.{◌≡◌, ℕ, zero, suc, ◌≤◌, List, [], ◌∷◌, take, refl, ap, ⊎_elim, inl, arith}
use Rattle.std.proofs.lemmas.Bool.{false≢true}
use Rattle.tiger_base.specs.declared.tenancy.Tenancy.{Tenancy}
use Rattle.tiger_base.specs.Records.{own_of}
use Rattle.slot_plan.specs.Samples.{small}
use Rattle.run_facts.specs.Order.{Noted}
use Rattle.run_model.specs.Parts.{ViewsAreAlwaysPart}
use Rattle.run_model.specs.Samples.{put, seat, three, took, dies, is_back}
use Rattle.run_model.proofs.OnSamples.{on_samples, of-eight}
use Rattle.audit_views.proofs.rows.seats_of_returned.Goals as goal

pub returns-clause-begins_anew : goal.returns-clause-begins_anew
unfolding on_samples
returns-clause-begins_anew c = (
  of-eight _ tt tt tt tt tt tt tt tt,
  (
    of-eight _ tt tt tt tt tt tt tt tt,
    (
      of-eight _ (inl (record { holder = refl; first = omega arith; last = omega arith }), tt) tt tt tt tt tt tt tt,
      (of-eight _ tt tt tt tt tt tt tt tt, (of-eight _ tt tt tt tt tt tt tt tt, of-eight _ tt tt tt tt tt tt tt tt)),
    ),
  ),
)

abbrev again : List Noted
again = put 0 1 three ∷ dies 0 2 ∷ is_back 0 4 ∷ took 0 5 (own_of three 0) ∷ put 0 5 (seat 1 3 5) ∷ []

up_to_none : ViewsAreAlwaysPart small []
unfolding on_samples
up_to_none = of-eight _ tt tt tt tt tt tt tt tt

up_to_put : ViewsAreAlwaysPart small (put 0 1 three ∷ [])
unfolding on_samples
up_to_put = (of-eight _ tt tt tt tt tt tt tt tt, of-eight _ tt tt tt tt tt tt tt tt)

up_to_death : ViewsAreAlwaysPart small (put 0 1 three ∷ dies 0 2 ∷ [])
unfolding on_samples
up_to_death = (of-eight _ tt tt tt tt tt tt tt tt, (of-eight _ tt tt tt tt tt tt tt tt, of-eight _ tt tt tt tt tt tt tt tt))

up_to_return : ViewsAreAlwaysPart small (put 0 1 three ∷ dies 0 2 ∷ is_back 0 4 ∷ [])
unfolding on_samples
up_to_return = (of-eight _ tt tt tt tt tt tt tt tt, (of-eight _ tt tt tt tt tt tt tt tt, (of-eight _ tt tt tt tt tt tt tt tt, of-eight _ tt tt tt tt tt tt tt tt)))

up_to_record : ViewsAreAlwaysPart small (put 0 1 three ∷ dies 0 2 ∷ is_back 0 4 ∷ took 0 5 (own_of three 0) ∷ [])
unfolding on_samples
up_to_record = (
  of-eight _ tt tt tt tt tt tt tt tt,
  (of-eight _ tt tt tt tt tt tt tt tt, (of-eight _ tt tt tt tt tt tt tt tt, (of-eight _ tt tt tt tt tt tt tt tt, of-eight _ (inl (record { holder = refl; first = omega arith; last = omega arith }), tt) tt tt tt tt tt tt tt))),
)

before_other : (j : ℕ) → j ≤ 4 → ViewsAreAlwaysPart small (take j again)
before_other zero h = up_to_none
before_other (suc zero) h = up_to_put
before_other (suc (suc zero)) h = up_to_death
before_other (suc (suc (suc zero))) h = up_to_return
before_other (suc (suc (suc (suc zero)))) h = up_to_record
before_other (suc (suc (suc (suc (suc j))))) h = absurd (omega (arith, h))

put_out : ViewsAreAlwaysPart small again → ⊥
unfolding on_samples
put_out h = ⊎_elim
    (λ v.
    let holder = v.holder in
    let same : seat 1 3 5 ≡ three = cc in
    let one : 1 ≡ 0 = ap (λ (t : Tenancy). t.instance.0) same in
    omega (arith, one))
    (λ n. false≢true n) (h.1.1.1.1.1 0 (omega arith)).0

pub returns-clause-taken_again : goal.returns-clause-taken_again
returns-clause-taken_again c = record {
  inside = omega arith;
  before = before_other;
  with_it = put_out;
  whole = put_out;
}
