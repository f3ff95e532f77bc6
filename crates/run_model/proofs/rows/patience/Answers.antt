use Rattle.std.proofs.Common.{◌≡◌, ℕ, ◌+◌, ◌*◌, ◌/◌, ◌<◌, IsTrue, refl, sym, ap, ◌∙◌, ⊎_elim, inl, inr, arith}
use Rattle.std.proofs.lemmas.Bool.{false≢true, leb-true, ltb-true}
use Rattle.tiger_base.specs.declared.tenancy.Ask.{Ask}
use Rattle.slot_plan.specs.Samples.{small}
use Rattle.slot_plan.specs.Times.{disk_of, in_window}
use Rattle.run_model.specs.Samples.{ask, seat}
use Rattle.run_model.proofs.Reflects.{and_left, and_right}
use Rattle.run_model.proofs.OnSamples.{on_samples, only-order}
use Rattle.run_model.proofs.rows.patience.Goals as goal

pub returns-clause-put_then : goal.returns-clause-put_then
unfolding on_samples
returns-clause-put_then c = record { taken = λ a slot visit o s p g l d w. let same = only-order ask a o in absurd (false≢true (sym (rw (← same) at p))) }

pub returns-clause-stopped : goal.returns-clause-stopped
unfolding on_samples
returns-clause-stopped c = record { taken = λ a slot visit o s p g l d w. let same = only-order ask a o in absurd (false≢true (sym (rw (← same) at g))) }

pub returns-clause-waits : goal.returns-clause-waits
unfolding on_samples
returns-clause-waits c h = ⊎_elim (λ t. let holder = t.1 in absurd (cc)) (λ n. n) (h.taken ask 1 0 (inl refl) (inl (refl, (refl, inl (refl, refl)))) refl refl (omega arith) refl refl)

pub returns-clause-put_too_late : goal.returns-clause-put_too_late
unfolding on_samples
returns-clause-put_too_late c h = ⊎_elim (λ t. let holder = t.1 in absurd (cc)) (λ n. n) (h.taken ask 1 0 (inl refl) (inl (refl, (refl, inl (refl, refl)))) refl refl (omega arith) refl refl)

pub returns-clause-other_put : goal.returns-clause-other_put
unfolding on_samples
returns-clause-other_put c h = ⊎_elim (λ t. let holder = t.1 in absurd (cc)) (λ n. n) (h.taken ask 1 0 (inl refl) (inl (refl, (refl, inl (refl, refl)))) refl refl (omega arith) refl refl)

pub returns-clause-other_stopped : goal.returns-clause-other_stopped
unfolding on_samples
returns-clause-other_stopped c h = ⊎_elim (λ t. let holder = t.1 in absurd (cc)) (λ n. n) (h.taken ask 1 0 (inl refl) (inl (refl, (refl, inl (refl, refl)))) refl refl (omega arith) refl refl)

pub returns-clause-last_slot : goal.returns-clause-last_slot
unfolding on_samples
returns-clause-last_slot c h = ⊎_elim (λ t. let holder = t.1 in absurd (cc)) (λ n. n) (h.taken ask 15 0 (inl refl) (inl (refl, (refl, inl (refl, refl)))) refl refl (omega arith) refl refl)

pub returns-clause-for_dead : goal.returns-clause-for_dead
unfolding on_samples
returns-clause-for_dead c h = ⊎_elim (λ t. let holder = t.1 in absurd (cc)) (λ n. n) (h.taken ask 1 0 (inl refl) (inr (refl, (refl, inl (refl, refl)))) refl refl (omega arith) refl refl)

pub returns-clause-for_living : goal.returns-clause-for_living
unfolding on_samples
returns-clause-for_living c = record { taken = λ a slot visit o s p g l d w. ⊎_elim (λ own. ⊎_elim (λ x. absurd (false≢true (sym x.1))) (λ n. absurd n) own.1.1) (λ next. absurd (false≢true next.1.0)) s }

pub returns-clause-silent : goal.returns-clause-silent
unfolding on_samples
returns-clause-silent c h =
    ⊎_elim (λ t. let holder = t.1 in absurd (cc))
    (λ r. ⊎_elim (λ x. ⊎_elim (λ stop. let recent = stop.1 in omega (arith, recent)) (λ n. n) x.2) (λ n. n) r)
    (h.taken ask 1 8 (inl refl) (inl (refl, (refl, inl (refl, refl)))) refl refl (omega arith) refl refl)

-- visit 0 of slot 1 is the only one of disk 0 in the window
only-one : (slot visit : ℕ) → slot < 16 → disk_of small visit ≡ 0 → IsTrue (in_window small 10000 slot visit) → (slot ≡ 1) × (visit ≡ 0)
unfolding on_samples
only-one slot visit low on_disk window =
    let before = leb-true (slot * 8 * 1000000 / 16 + visit * 1000000) 810000 (and_left _ _ window) in
    let after = ltb-true 210000 (slot * 8 * 1000000 / 16 + visit * 1000000) (and_right _ _ window) in
    (omega (arith, before, after, low), omega (arith, before, after, low))

pub returns-clause-taken : goal.returns-clause-taken
unfolding on_samples
returns-clause-taken c = record {
  taken = λ a slot visit o s p g low d window.
      let same = only-order ask a o in
      let first : 0 ≡ a.disk.0 = ap (λ (x : Ask). x.disk.0) same in
      let here = only-one slot visit low (d ∙ sym first) window in
      rw (here.0, here.1) (inl (seat 1 0 2, refl, omega arith, omega arith));
}

-- a play of all disks later it is visit 8 of that slot
only-eight : (slot visit : ℕ) → slot < 16 → disk_of small visit ≡ 0 → IsTrue (in_window small 7800000 slot visit) → (slot ≡ 1) × (visit ≡ 8)
unfolding on_samples
only-eight slot visit low on_disk window =
    let before = leb-true (slot * 8 * 1000000 / 16 + visit * 1000000) 8600000 (and_left _ _ window) in
    let after = ltb-true 8000000 (slot * 8 * 1000000 / 16 + visit * 1000000) (and_right _ _ window) in
    (omega (arith, before, after, low), omega (arith, before, after, low))

pub returns-clause-recent : goal.returns-clause-recent
unfolding on_samples
returns-clause-recent c = record {
  taken = λ a slot visit o s p g low d window.
      let same = only-order ask a o in
      let first : 0 ≡ a.disk.0 = ap (λ (x : Ask). x.disk.0) same in
      let here = only-eight slot visit low (d ∙ sym first) window in
      rw (here.0, here.1) (inr (inl (refl, refl, inl (refl, omega arith))));
}

-- who has died puts nobody
pub returns-clause-back : goal.returns-clause-back
unfolding on_samples
returns-clause-back c = record {
  taken = λ a slot visit o s p g l d w. ⊎_elim
      (λ own. absurd (false≢true (sym own.1.0)))
      (λ next. absurd (false≢true next.1.0)) s;
}

pub returns-clause-other_back : goal.returns-clause-other_back
unfolding on_samples
returns-clause-other_back c h = ⊎_elim (λ t. let holder = t.1 in absurd (cc)) (λ n. n) (h.taken ask 1 0 (inl refl) (inl (refl, (refl, inl (refl, refl)))) refl refl (omega arith) refl refl)
