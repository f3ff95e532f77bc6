use Rattle.std.proofs.Common.{◌≡◌, ℕ, Bool, true, false, Some, None, List, [], ◌∷◌, refl, sym, subst, ⊎_elim, inl, arith}
use Rattle.std.proofs.lemmas.Bool.{false≢true}
use Rattle.slot_plan.specs.declared.params.Params.{Params}
use Rattle.node_kit.specs.declared.course.Kept.{Kept}
use Rattle.node_kit.specs.Courses.{reading_of}
use Rattle.node_kit.specs.Life.{lifetime_of}
use Rattle.node_kit.specs.declared.course.Order.{Order}
use Rattle.node_kit.specs.declared.journal.Entry.{Entry}
use Rattle.run_model.specs.Fronts.{AnyByRecursion}
use Rattle.run_model.specs.Moments.{Moment}
use Rattle.run_model.specs.Orders.{IsNotPassedOver, IsStartOf, end_of_tick}
use Rattle.run_model.specs.Runs.{EndsBeat, NoneIsPassedOver, order_in}
use Rattle.run_model.specs.Samples.{ask, ask_for, ordered, starts, put, three, dying, of_none, kept, kept_of_lives}
use Rattle.run_model.proofs.OnSamples.{on_samples, only-order, of-eight}
use Rattle.run_model.proofs.rows.every_tick.Goals as goal

no-start : (v : ℕ) (redundant : Bool) (journal : List Entry) → journal ≡ [] → AnyByRecursion (λ e. IsStartOf v redundant e.what) journal → ⊥
no-start v redundant [] e h = h
no-start v redundant (x ∷ xs) e h = absurd (cc)

-- a cub that wrote nothing passes nobody over
idle : (p : Params) (orders : List Order) (m : Moment) (cub beat reading : ℕ) → m.journal cub ≡ [] → IsNotPassedOver p orders m cub beat reading
idle p orders m cub beat reading e = record {
  taken = λ a slot visit o s put gone l d w. ⊎_elim
      (λ own. absurd (no-start a.instance.0 false (m.journal cub) e own.1.1))
      (λ next. absurd (no-start a.instance.0 true (m.journal cub) e next.1.1)) s;
}

abbrev Passes : Kept → ℕ → ℕ → Type 0
Passes k beat cub = EndsBeat (lifetime_of k.course cub) beat
    → IsNotPassedOver k.course.plan.params k.orders (end_of_tick beat cub (order_in k)) cub beat (reading_of k.course cub beat)

-- in a run of one beat each of the eight cubs passes nobody over, if it does not in that beat
in-one-beat : (k : Kept) → k.course.plan.params.cubs ≡ 8 → k.course.beats ≡ 1 → Passes k 0 0 → Passes k 0 1 → Passes k 0 2 → Passes k 0 3
    → Passes k 0 4 → Passes k 0 5 → Passes k 0 6 → Passes k 0 7 → NoneIsPassedOver k
in-one-beat k e b p0 p1 p2 p3 p4 p5 p6 p7 cub beat low early ends =
    let first : 0 ≡ beat = omega (arith, b, early) in
    subst (λ (n : ℕ). Passes k n cub) first (of-eight (Passes k 0) p0 p1 p2 p3 p4 p5 p6 p7 cub (rw e at low)) ends

pub returns-clause-put_then : goal.returns-clause-put_then
unfolding on_samples
returns-clause-put_then c k plan = in-one-beat (kept k plan 1 (dying None None None) ordered (starts 0 0 ask false ∷ put 0 0 three ∷ [])) refl refl (λ ends. record { taken = λ a slot visit o s p g l d w. let same = only-order ask a o in absurd (false≢true (sym (rw (← same) at p))) }) (λ ends. idle _ _ _ _ _ _ refl) (λ ends. idle _ _ _ _ _ _ refl) (λ ends. idle _ _ _ _ _ _ refl) (λ ends. idle _ _ _ _ _ _ refl) (λ ends. idle _ _ _ _ _ _ refl) (λ ends. idle _ _ _ _ _ _ refl) (λ ends. idle _ _ _ _ _ _ refl)

pub returns-clause-waits : goal.returns-clause-waits
unfolding on_samples
returns-clause-waits c k plan h = ⊎_elim (λ t. let holder = t.1 in absurd (cc)) (λ n. n) ((h 0 0 (omega arith) (omega arith) (refl, refl)).taken (ask) 1 0 (inl refl) (inl (refl, (refl, inl (refl, refl)))) refl refl (omega arith) refl refl)

pub returns-clause-dies_then : goal.returns-clause-dies_then
unfolding on_samples
returns-clause-dies_then c k plan = in-one-beat (kept k plan 1 (dying (Some 0) None None) ordered (starts 0 0 ask false ∷ [])) refl refl (λ ends. absurd (false≢true ends.0)) (λ ends. idle _ _ _ _ _ _ refl) (λ ends. idle _ _ _ _ _ _ refl) (λ ends. idle _ _ _ _ _ _ refl) (λ ends. idle _ _ _ _ _ _ refl) (λ ends. idle _ _ _ _ _ _ refl) (λ ends. idle _ _ _ _ _ _ refl) (λ ends. idle _ _ _ _ _ _ refl)

pub returns-clause-dies_later : goal.returns-clause-dies_later
unfolding on_samples
returns-clause-dies_later c k plan h = ⊎_elim (λ t. let holder = t.1 in absurd (cc)) (λ n. n) ((h 0 0 (omega arith) (omega arith) (refl, refl)).taken (ask) 1 0 (inl refl) (inl (refl, (refl, inl (refl, refl)))) refl refl (omega arith) refl refl)

pub returns-clause-last_cub : goal.returns-clause-last_cub
unfolding on_samples
returns-clause-last_cub c k plan h = ⊎_elim (λ t. let holder = t.1 in absurd (cc)) (λ n. n) ((h 7 650 (omega arith) (omega arith) (refl, refl)).taken (ask_for 0 0 3 7) 0 7 (inl refl) (inl (refl, (refl, inl (refl, refl)))) refl refl (omega arith) refl refl)

pub returns-clause-cut_off_then : goal.returns-clause-cut_off_then
unfolding on_samples
returns-clause-cut_off_then c k plan = in-one-beat (kept_of_lives k plan 1 (dying (Some 0) None None) (dying (Some 2) None None) of_none ordered (starts 0 0 ask false ∷ [])) refl refl (λ ends. absurd (false≢true (sym ends.1))) (λ ends. idle _ _ _ _ _ _ refl) (λ ends. idle _ _ _ _ _ _ refl) (λ ends. idle _ _ _ _ _ _ refl) (λ ends. idle _ _ _ _ _ _ refl) (λ ends. idle _ _ _ _ _ _ refl) (λ ends. idle _ _ _ _ _ _ refl) (λ ends. idle _ _ _ _ _ _ refl)

pub returns-clause-cut_off_later : goal.returns-clause-cut_off_later
unfolding on_samples
returns-clause-cut_off_later c k plan h = ⊎_elim (λ t. let holder = t.1 in absurd (cc)) (λ n. n) ((h 0 0 (omega arith) (omega arith) (refl, refl)).taken (ask) 1 0 (inl refl) (inl (refl, (refl, inl (refl, refl)))) refl refl (omega arith) refl refl)
