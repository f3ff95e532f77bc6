use Rattle.std.proofs.Common.{false, refl, sym, ⊎_elim, inl, None, Some, [], ◌∷◌, arith}
use Rattle.std.proofs.lemmas.Bool.{false≢true}
use Rattle.slot_plan.specs.Samples.{small}
use Rattle.run_model.specs.Orders.{IsNotPassedOver, end_of_tick}
use Rattle.run_model.specs.Samples.{ask, dying, kept, ordered, put, starts, three}
use Rattle.run_model.proofs.OnSamples.{on_samples, only-order}
use Rattle.audit_waits.proofs.OnRuns.{all_eight, idle, in_one_beat}
use Rattle.audit_waits.proofs.rows.placed.Goals as goal

-- at the first tick of cub 0 the start that it got is passed over
waits : IsNotPassedOver small ordered (end_of_tick 0 0 (starts 0 0 ask false ∷ [])) 0 0 0 → ⊥
unfolding on_samples
waits h = ⊎_elim (λ t. let holder = t.1 in absurd (cc)) (λ n. n)
    (h.taken ask 1 0 (inl refl) (inl (refl, (refl, inl (refl, refl)))) refl refl (omega arith) refl refl)

pub returns-clause-at_once : goal.returns-clause-at_once
unfolding on_samples
returns-clause-at_once c k plan =
    let run = kept k plan 1 (dying None None None) ordered (starts 0 0 ask false ∷ put 0 0 three ∷ []) in
    in_one_beat run refl refl (all_eight run 0
    (λ ends. record { taken = λ a slot visit o s p g l d w. let same = only-order ask a o in absurd (false≢true (sym (rw (← same) at p))) })
    (λ ends. idle _ _ _ _ _ _ refl) (λ ends. idle _ _ _ _ _ _ refl) (λ ends. idle _ _ _ _ _ _ refl) (λ ends. idle _ _ _ _ _ _ refl)
    (λ ends. idle _ _ _ _ _ _ refl) (λ ends. idle _ _ _ _ _ _ refl) (λ ends. idle _ _ _ _ _ _ refl))

pub returns-clause-too_late : goal.returns-clause-too_late
unfolding on_samples
returns-clause-too_late c k plan = record {
  reading = 0;
  low = omega arith;
  ticks = (omega arith, (refl, refl), refl);
  passed_over = waits;
  before = λ cub beat reading low ticks comes. ⊎_elim (λ l. absurd (omega (arith, l))) (λ e. let none = e.1 in absurd (omega (arith, none))) comes;
  place = refl;
}

pub returns-clause-not_the_first : goal.returns-clause-not_the_first
unfolding on_samples
returns-clause-not_the_first c k plan h = waits (h.before 0 0 0 (omega arith) (omega arith, (refl, refl), refl) (inl (omega arith)))

pub returns-clause-not_at_all : goal.returns-clause-not_at_all
unfolding on_samples
returns-clause-not_at_all c k plan h = waits (h 0 0 0 (omega arith) (omega arith, (refl, refl), refl))

pub returns-clause-dies : goal.returns-clause-dies
unfolding on_samples
returns-clause-dies c k plan =
    let run = kept k plan 1 (dying (Some 0) None None) ordered (starts 0 0 ask false ∷ []) in
    in_one_beat run refl refl (all_eight run 0 (λ ends. absurd (false≢true ends.0))
    (λ ends. idle _ _ _ _ _ _ refl) (λ ends. idle _ _ _ _ _ _ refl) (λ ends. idle _ _ _ _ _ _ refl) (λ ends. idle _ _ _ _ _ _ refl)
    (λ ends. idle _ _ _ _ _ _ refl) (λ ends. idle _ _ _ _ _ _ refl) (λ ends. idle _ _ _ _ _ _ refl))
