use Rattle.std.proofs.Common.{◌≡◌, ℕ, zero, suc, ◌<◌, refl, ap, arith}
use Rattle.run_facts.specs.Events.{NodeEvent, stamp_at}
use Rattle.run_facts.specs.Samples.{ticking}
use Rattle.proof_answer.proofs.rows.same_histories.Goals as goal

abbrev reading_at : NodeEvent ℕ → ℕ
reading_at e = (stamp_at e).reading

unseen : (n i : ℕ) → n < 2 → i < 3 → (ticking 3 2 0).event n i ≡ (ticking 3 1 3).event n i
unseen zero i low at = refl
unseen (suc zero) zero low at = refl
unseen (suc zero) (suc zero) low at = refl
unseen (suc zero) (suc (suc zero)) low at = refl
unseen (suc zero) (suc (suc (suc i))) low at = absurd (omega (arith, at))
unseen (suc (suc n)) i low at = absurd (omega (arith, low))

pub returns-clause-unseen : goal.returns-clause-unseen
returns-clause-unseen c = record { counts = λ n low. refl; events = unseen }

pub returns-clause-first_event : goal.returns-clause-first_event
returns-clause-first_event c h =
    let shown = ap reading_at (h.events 0 0 (omega arith) (omega arith)) in omega (arith, shown)

pub returns-clause-last_event : goal.returns-clause-last_event
returns-clause-last_event c h =
    let shown = ap reading_at (h.events 1 2 (omega arith) (omega arith)) in omega (arith, shown)

pub returns-clause-fewer_events : goal.returns-clause-fewer_events
returns-clause-fewer_events c h = let count = h.counts 0 (omega arith) in omega (arith, count)

pub returns-clause-more_events : goal.returns-clause-more_events
returns-clause-more_events c h = let count = h.counts 0 (omega arith) in omega (arith, count)
