use Rattle.std.proofs.Common.{◌≡◌, false, ℕ, ◌+◌, ◌*◌, ◌/◌, ◌<◌, IsTrue, refl, sym, ap, ◌∙◌, ⊎_elim, inl, inr, None, [], ◌∷◌, arith}
use Rattle.std.proofs.lemmas.Bool.{false≢true, leb-true, ltb-true}
use Rattle.tiger_base.specs.Records.{own_of}
use Rattle.tiger_base.specs.declared.tenancy.Ask.{Ask}
use Rattle.slot_plan.specs.Samples.{small}
use Rattle.slot_plan.specs.Times.{disk_of, in_window}
use Rattle.run_model.specs.Samples.{ask, dying, gone, kept, ordered, seat, starts, took}
use Rattle.run_model.proofs.OnSamples.{on_samples, only-order}
use Rattle.run_model.proofs.Reflects.{and_left, and_right}
use Rattle.audit_waits.proofs.OnRuns.{all_eight, idle, in_two_beats, passes_before}
use Rattle.audit_waits.proofs.rows.stopped.Goals as goal

pub returns-clause-cancelled : goal.returns-clause-cancelled
unfolding on_samples
returns-clause-cancelled c k plan =
    let run = kept k plan 2 (dying None None None) ordered (gone 0 0 ∷ starts 0 1 ask false ∷ []) in
    in_two_beats run refl refl
    (all_eight run 0
    (λ ends. idle _ _ _ _ _ _ refl) (λ ends. idle _ _ _ _ _ _ refl) (λ ends. idle _ _ _ _ _ _ refl) (λ ends. idle _ _ _ _ _ _ refl)
    (λ ends. idle _ _ _ _ _ _ refl) (λ ends. idle _ _ _ _ _ _ refl) (λ ends. idle _ _ _ _ _ _ refl) (λ ends. idle _ _ _ _ _ _ refl))
    (all_eight run 1
    (λ ends. record { taken = λ a slot visit o s p g l d w. let same = only-order ask a o in absurd (false≢true (sym (rw (← same) at g))) })
    (λ ends. idle _ _ _ _ _ _ refl) (λ ends. idle _ _ _ _ _ _ refl) (λ ends. idle _ _ _ _ _ _ refl) (λ ends. idle _ _ _ _ _ _ refl)
    (λ ends. idle _ _ _ _ _ _ refl) (λ ends. idle _ _ _ _ _ _ refl) (λ ends. idle _ _ _ _ _ _ refl))

-- visit 0 of slot 1 is the only one of disk 0 in the window
only_one : (slot visit : ℕ) → slot < 16 → disk_of small visit ≡ 0 → IsTrue (in_window small 10000 slot visit) → (slot ≡ 1) × (visit ≡ 0)
unfolding on_samples
only_one slot visit low on_disk window =
    let before = leb-true (slot * 8 * 1000000 / 16 + visit * 1000000) 810000 (and_left _ _ window) in
    let after = ltb-true 210000 (slot * 8 * 1000000 / 16 + visit * 1000000) (and_right _ _ window) in
    (omega (arith, before, after, low), omega (arith, before, after, low))

pub returns-clause-in_the_way : goal.returns-clause-in_the_way
unfolding on_samples
returns-clause-in_the_way c k plan =
    let run = kept k plan 2 (dying None None None) ordered (gone 0 1 ∷ starts 0 1 ask false ∷ took 0 1 (own_of (seat 1 0 2) 0) ∷ []) in
    in_two_beats run refl refl
    (all_eight run 0
    (λ ends. idle _ _ _ _ _ _ refl) (λ ends. idle _ _ _ _ _ _ refl) (λ ends. idle _ _ _ _ _ _ refl) (λ ends. idle _ _ _ _ _ _ refl)
    (λ ends. idle _ _ _ _ _ _ refl) (λ ends. idle _ _ _ _ _ _ refl) (λ ends. idle _ _ _ _ _ _ refl) (λ ends. idle _ _ _ _ _ _ refl))
    (all_eight run 1
    (λ ends. record {
      taken = λ a slot visit o s p g low d window.
          let same = only-order ask a o in
          let first : 0 ≡ a.disk.0 = ap (λ (x : Ask). x.disk.0) same in
          let here = only_one slot visit low (d ∙ sym first) window in
          rw (here.0, here.1) (inr (inl (refl, refl, inl (refl, omega arith))));
    })
    (λ ends. idle _ _ _ _ _ _ refl) (λ ends. idle _ _ _ _ _ _ refl) (λ ends. idle _ _ _ _ _ _ refl) (λ ends. idle _ _ _ _ _ _ refl)
    (λ ends. idle _ _ _ _ _ _ refl) (λ ends. idle _ _ _ _ _ _ refl) (λ ends. idle _ _ _ _ _ _ refl))

pub returns-clause-free : goal.returns-clause-free
unfolding on_samples
returns-clause-free c k plan =
    let run = kept k plan 2 (dying None None None) ordered (gone 0 1 ∷ starts 0 1 ask false ∷ []) in
    let first = all_eight run 0
    (λ ends. idle _ _ _ _ _ _ refl) (λ ends. idle _ _ _ _ _ _ refl) (λ ends. idle _ _ _ _ _ _ refl) (λ ends. idle _ _ _ _ _ _ refl)
    (λ ends. idle _ _ _ _ _ _ refl) (λ ends. idle _ _ _ _ _ _ refl) (λ ends. idle _ _ _ _ _ _ refl) (λ ends. idle _ _ _ _ _ _ refl) in
    record {
      reading = 10000;
      low = omega arith;
      ticks = (omega arith, (refl, refl), refl);
      passed_over = λ h. ⊎_elim (λ t. let holder = t.1 in absurd (cc)) (λ n. n)
          (h.taken ask 1 0 (inl refl) (inl (refl, (refl, inl (refl, refl)))) refl refl (omega arith) refl refl);
      before = λ cub beat reading low ticks comes. ⊎_elim
          (λ l. passes_before run cub beat reading first low (omega (arith, l)) ticks)
          (λ e. let none = e.1 in absurd (omega (arith, none))) comes;
      place = refl;
    }
