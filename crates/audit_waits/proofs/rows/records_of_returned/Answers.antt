use Rattle.std.proofs.Common.{◌≡◌, ℕ, ◌+◌, ◌*◌, ◌/◌, ◌<◌, IsTrue, true, refl, sym, ap, ◌∙◌, ⊎_elim, inl, inr, Some, None, [], ◌∷◌, arith}
use Rattle.std.proofs.lemmas.Bool.{false≢true, leb-true, ltb-true}
use Rattle.tiger_base.specs.Records.{own_of}
use Rattle.tiger_base.specs.declared.tenancy.Ask.{Ask}
use Rattle.slot_plan.specs.Samples.{small}
use Rattle.slot_plan.specs.Times.{disk_of, in_window}
use Rattle.run_model.specs.Samples.{ask, believes, is_back, dies, dying, gone, kept_of_lives, of_none, ordered, seat, starts, took}
use Rattle.run_model.proofs.OnSamples.{on_samples, only-order}
use Rattle.run_model.proofs.Reflects.{and_left, and_right}
use Rattle.audit_waits.proofs.OnRuns.{all_eight, idle, in_three_beats, passes_before_two}
use Rattle.audit_waits.proofs.rows.records_of_returned.Goals as goal

-- in beat 2 visit 0 of slot 1 is the only one of disk 0 in the window
only_one : (slot visit : ℕ) → slot < 16 → disk_of small visit ≡ 0 → IsTrue (in_window small 20000 slot visit) → (slot ≡ 1) × (visit ≡ 0)
unfolding on_samples
only_one slot visit low on_disk window =
    let before = leb-true (slot * 8 * 1000000 / 16 + visit * 1000000) 820000 (and_left _ _ window) in
    let after = ltb-true 220000 (slot * 8 * 1000000 / 16 + visit * 1000000) (and_right _ _ window) in
    (omega (arith, before, after, low), omega (arith, before, after, low))

pub returns-clause-since : goal.returns-clause-since
unfolding on_samples
returns-clause-since c k plan =
    let run = kept_of_lives k plan 3 (dying None (Some 0) None) of_none (dying None (Some 2) None) ordered
    (dies 1 0 ∷ gone 0 1 ∷ is_back 1 2 ∷ believes 1 2 0 ∷ starts 1 2 ask true ∷ took 1 2 (own_of (seat 1 0 2) 0) ∷ []) in
    in_three_beats run refl refl
    (all_eight run 0
    (λ ends. idle _ _ _ _ _ _ refl) (λ ends. absurd (false≢true ends.0)) (λ ends. idle _ _ _ _ _ _ refl) (λ ends. idle _ _ _ _ _ _ refl)
    (λ ends. idle _ _ _ _ _ _ refl) (λ ends. idle _ _ _ _ _ _ refl) (λ ends. idle _ _ _ _ _ _ refl) (λ ends. idle _ _ _ _ _ _ refl))
    (all_eight run 1
    (λ ends. idle _ _ _ _ _ _ refl) (λ ends. absurd (false≢true ends.0)) (λ ends. idle _ _ _ _ _ _ refl) (λ ends. idle _ _ _ _ _ _ refl)
    (λ ends. idle _ _ _ _ _ _ refl) (λ ends. idle _ _ _ _ _ _ refl) (λ ends. idle _ _ _ _ _ _ refl) (λ ends. idle _ _ _ _ _ _ refl))
    (all_eight run 2
    (λ ends. idle _ _ _ _ _ _ refl) (λ ends. record {
      taken = λ a slot visit o s p g low d window.
          let same = only-order ask a o in
          let first : 0 ≡ a.disk.0 = ap (λ (x : Ask). x.disk.0) same in
          let here = only_one slot visit low (d ∙ sym first) window in
          rw (here.0, here.1) (inr (inl (refl, refl, inl (refl, omega arith))));
    }) (λ ends. idle _ _ _ _ _ _ refl) (λ ends. idle _ _ _ _ _ _ refl)
    (λ ends. idle _ _ _ _ _ _ refl) (λ ends. idle _ _ _ _ _ _ refl) (λ ends. idle _ _ _ _ _ _ refl) (λ ends. idle _ _ _ _ _ _ refl))

pub returns-clause-of_a_former_life : goal.returns-clause-of_a_former_life
unfolding on_samples
returns-clause-of_a_former_life c k plan =
    let run = kept_of_lives k plan 3 (dying None (Some 0) None) of_none (dying None (Some 2) None) ordered
    (took 1 0 (own_of (seat 1 0 2) 0) ∷ dies 1 0 ∷ gone 0 1 ∷ is_back 1 2 ∷ believes 1 2 0 ∷ starts 1 2 ask true ∷ []) in
    let first = (all_eight run 0
    (λ ends. idle _ _ _ _ _ _ refl) (λ ends. absurd (false≢true ends.0)) (λ ends. idle _ _ _ _ _ _ refl) (λ ends. idle _ _ _ _ _ _ refl)
    (λ ends. idle _ _ _ _ _ _ refl) (λ ends. idle _ _ _ _ _ _ refl) (λ ends. idle _ _ _ _ _ _ refl) (λ ends. idle _ _ _ _ _ _ refl)) in
    let second = (all_eight run 1
    (λ ends. idle _ _ _ _ _ _ refl) (λ ends. absurd (false≢true ends.0)) (λ ends. idle _ _ _ _ _ _ refl) (λ ends. idle _ _ _ _ _ _ refl)
    (λ ends. idle _ _ _ _ _ _ refl) (λ ends. idle _ _ _ _ _ _ refl) (λ ends. idle _ _ _ _ _ _ refl) (λ ends. idle _ _ _ _ _ _ refl)) in
    record {
      reading = 20000;
      low = omega arith;
      ticks = (omega arith, (refl, refl), refl);
      passed_over = λ h. ⊎_elim (λ t. let holder = t.1 in absurd (cc)) (λ n. n)
          (h.taken ask 1 0 (inl refl) (inr (refl, (refl, inr (inr (inr (inr (inl (refl, refl)))))))) refl refl (omega arith) refl refl);
      before = λ cub beat reading low ticks comes. ⊎_elim
          (λ (l : beat < 2). passes_before_two run cub beat reading first second low l ticks)
          (λ e. let here = e.0 in let less = e.1 in let none : 0 ≡ cub = omega (arith, less) in rw (here, ← none) (idle _ _ _ _ _ _ refl)) comes;
      place = refl;
    }
