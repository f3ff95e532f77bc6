use Rattle.std.proofs.Common.{ℕ, zero, suc, ◌≤◌, List, [], ◌∷◌, take, refl, inl, inr, arith}
use Rattle.tiger_base.specs.Records.{own_of}
use Rattle.slot_plan.specs.Samples.{small}
use Rattle.run_facts.specs.Order.{Noted}
use Rattle.run_model.specs.Parts.{EntriesAreLocal}
use Rattle.run_model.specs.Samples.{three, took, told, tells, dies, is_back}
use Rattle.run_model.proofs.OnSamples.{on_samples}
use Rattle.audit_views.proofs.rows.local_of_returned.Goals as goal

pub returns-clause-since : goal.returns-clause-since
unfolding on_samples
returns-clause-since c = (
  (λ n. tt),
  (
    (λ n. tt),
    (
      (λ n. tt),
      (
        (λ n. record { for_cub = refl; came = inr (inr (inl (refl, inr refl, refl))); soon = omega arith }),
        ((λ n. inl (refl, refl, inr refl)), tt),
      ),
    ),
  ),
)

abbrev former : List Noted
former = told 1 5 24 three 0 ∷ took 1 5 (own_of three 1) ∷ dies 1 6 ∷ is_back 1 8 ∷ tells 1 9 26 three 2 ∷ []

up_to_state : EntriesAreLocal small (told 1 5 24 three 0 ∷ [])
unfolding on_samples
up_to_state = ((λ n. tt), tt)

up_to_record : EntriesAreLocal small (told 1 5 24 three 0 ∷ took 1 5 (own_of three 1) ∷ [])
unfolding on_samples
up_to_record = ((λ n. tt), ((λ n. record { for_cub = refl; came = inl (refl, inr refl, refl); soon = omega arith }), tt))

up_to_death : EntriesAreLocal small (told 1 5 24 three 0 ∷ took 1 5 (own_of three 1) ∷ dies 1 6 ∷ [])
unfolding on_samples
up_to_death = ((λ n. tt), ((λ n. record { for_cub = refl; came = inl (refl, inr refl, refl); soon = omega arith }), ((λ n. tt), tt)))

up_to_return : EntriesAreLocal small (told 1 5 24 three 0 ∷ took 1 5 (own_of three 1) ∷ dies 1 6 ∷ is_back 1 8 ∷ [])
unfolding on_samples
up_to_return = ((λ n. tt), ((λ n. record { for_cub = refl; came = inl (refl, inr refl, refl); soon = omega arith }), ((λ n. tt), ((λ n. tt), tt))))

before_sending : (j : ℕ) → j ≤ 4 → EntriesAreLocal small (take j former)
before_sending zero h = tt
before_sending (suc zero) h = up_to_state
before_sending (suc (suc zero)) h = up_to_record
before_sending (suc (suc (suc zero))) h = up_to_death
before_sending (suc (suc (suc (suc zero)))) h = up_to_return
before_sending (suc (suc (suc (suc (suc j))))) h = absurd (omega (arith, h))

sent : EntriesAreLocal small former → ⊥
unfolding on_samples
sent h = h.1.1.1.1.0 (omega arith)

pub returns-clause-of_a_former_life : goal.returns-clause-of_a_former_life
returns-clause-of_a_former_life c = record {
  inside = omega arith;
  before = before_sending;
  with_it = sent;
  whole = sent;
}
