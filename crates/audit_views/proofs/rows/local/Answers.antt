use Rattle.std.proofs.Common.{ℕ, zero, suc, ◌≤◌, [], ◌∷◌, take, refl, ⊎_elim, inl, inr, arith}
use Rattle.std.proofs.lemmas.Bool.{false≢true}
use Rattle.tiger_base.specs.Records.{own_of}
use Rattle.slot_plan.specs.Samples.{small}
use Rattle.run_model.specs.Parts.{EntriesAreLocal}
use Rattle.run_model.specs.Samples.{later, three, took, told, tells}
use Rattle.run_model.proofs.OnSamples.{on_samples}
use Rattle.audit_views.proofs.rows.local.Goals as goal

pub returns-clause-came : goal.returns-clause-came
unfolding on_samples
returns-clause-came c = (
  (λ n. tt),
  (
    (λ n. record { for_cub = refl; came = inl (refl, inr refl, refl); soon = omega arith }),
    ((λ n. inl (refl, refl, inr refl)), tt),
  ),
)

nothing : EntriesAreLocal small []
nothing = tt

from_afar : EntriesAreLocal small (told 1 5 37 three 0 ∷ [])
unfolding on_samples
from_afar = ((λ n. tt), tt)

before_taking : (j : ℕ) → j ≤ 1 → EntriesAreLocal small (take j (told 1 5 37 three 0 ∷ took 1 5 (own_of three 1) ∷ later 6 ∷ []))
before_taking zero h = nothing
before_taking (suc zero) h = from_afar
before_taking (suc (suc j)) h = absurd (omega (arith, h))

taken : EntriesAreLocal small (told 1 5 37 three 0 ∷ took 1 5 (own_of three 1) ∷ []) → ⊥
unfolding on_samples
taken h = ⊎_elim (λ b. false≢true b.2) (λ n. n) (h.1.0 (omega arith)).came

taken_before : EntriesAreLocal small (told 1 5 37 three 0 ∷ took 1 5 (own_of three 1) ∷ later 6 ∷ []) → ⊥
unfolding on_samples
taken_before h = ⊎_elim (λ b. false≢true b.2) (λ n. n) (h.1.0 (omega arith)).came

pub returns-clause-from_afar : goal.returns-clause-from_afar
returns-clause-from_afar c = record {
  inside = omega arith;
  before = before_taking;
  with_it = taken;
  whole = taken_before;
}

came_alone : EntriesAreLocal small (told 1 5 24 three 0 ∷ [])
unfolding on_samples
came_alone = ((λ n. tt), tt)

before_sending : (j : ℕ) → j ≤ 1 → EntriesAreLocal small (take j (told 1 5 24 three 0 ∷ tells 1 6 26 three 2 ∷ []))
before_sending zero h = nothing
before_sending (suc zero) h = came_alone
before_sending (suc (suc j)) h = absurd (omega (arith, h))

sent : EntriesAreLocal small (told 1 5 24 three 0 ∷ tells 1 6 26 three 2 ∷ []) → ⊥
unfolding on_samples
sent h = h.1.0 (omega arith)

pub returns-clause-has_none : goal.returns-clause-has_none
returns-clause-has_none c = record {
  inside = omega arith;
  before = before_sending;
  with_it = sent;
  whole = sent;
}
