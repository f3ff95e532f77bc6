use Rattle.std.proofs.Common.{◌≡◌, refl, ⊎_elim, inl, inr, arith}
use Rattle.run_model.specs.Samples.{three}
use Rattle.run_model.proofs.OnSamples.{on_samples}
use Rattle.run_model.proofs.rows.taken.Goals as goal

pub returns-clause-held : goal.returns-clause-held
unfolding on_samples
returns-clause-held c = inl (three, refl, omega arith, omega arith)

pub returns-clause-behind : goal.returns-clause-behind
unfolding on_samples
returns-clause-behind c h = ⊎_elim (λ t. let last = t.3 in let of_three : 2 ≡ t.0.last = cc in omega (arith, last, of_three)) (λ n. n) h

pub returns-clause-before : goal.returns-clause-before
unfolding on_samples
returns-clause-before c h = ⊎_elim (λ t. let first = t.2 in let of_seat : 1 ≡ t.0.first = cc in omega (arith, first, of_seat)) (λ n. n) h

pub returns-clause-other_slot : goal.returns-clause-other_slot
unfolding on_samples
returns-clause-other_slot c h = ⊎_elim (λ t. let holder = t.1 in absurd (cc)) (λ n. n) h

pub returns-clause-recorded : goal.returns-clause-recorded
unfolding on_samples
returns-clause-recorded c = inr (inl (refl, refl, inl (refl, omega arith)))

pub returns-clause-long_stopped : goal.returns-clause-long_stopped
unfolding on_samples
returns-clause-long_stopped c h =
    ⊎_elim (λ t. let holder = t.1 in absurd (cc))
    (λ r. ⊎_elim (λ x. ⊎_elim (λ stop. let recent = stop.1 in omega (arith, recent)) (λ n. n) x.2) (λ n. n) r) h

pub returns-clause-of_other : goal.returns-clause-of_other
unfolding on_samples
returns-clause-of_other c h =
    ⊎_elim (λ t. let holder = t.1 in absurd (cc))
    (λ r. ⊎_elim (λ x. ⊎_elim (λ stop. let same = stop.0 in omega (arith, same)) (λ n. n) x.2) (λ n. n) r) h

pub returns-clause-other_visit : goal.returns-clause-other_visit
unfolding on_samples
returns-clause-other_visit c h = ⊎_elim (λ t. let holder = t.1 in absurd (cc)) (λ r. ⊎_elim (λ x. let visit = x.1 in omega (arith, visit)) (λ n. n) r) h

pub returns-clause-other_view : goal.returns-clause-other_view
unfolding on_samples
returns-clause-other_view c h = ⊎_elim (λ t. let holder = t.1 in absurd (cc)) (λ n. n) h
