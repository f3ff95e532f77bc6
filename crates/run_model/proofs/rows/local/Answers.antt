use Rattle.std.proofs.Common.{◌≡◌, refl, ap, ⊎_elim, inl, inr, arith}
use Rattle.std.proofs.lemmas.Bool.{false≢true}
use Rattle.tiger_base.specs.declared.tenancy.Tenancy.{Tenancy}
use Rattle.run_model.proofs.OnSamples.{on_samples}
use Rattle.run_model.proofs.rows.local.Goals as goal

pub returns-clause-came : goal.returns-clause-came
unfolding on_samples
returns-clause-came c = ((λ n. tt), ((λ n. record { for_cub = refl; came = inl (refl, inr refl, refl); soon = omega arith }), tt))

pub returns-clause-backup : goal.returns-clause-backup
unfolding on_samples
returns-clause-backup c = ((λ n. tt), ((λ n. record { for_cub = refl; came = inl (refl, inl refl, refl); soon = omega arith }), tt))

pub returns-clause-own_put : goal.returns-clause-own_put
unfolding on_samples
returns-clause-own_put c = ((λ n. tt), ((λ n. record { for_cub = refl; came = inl (refl, inl refl); soon = omega arith }), tt))

pub returns-clause-nothing_came : goal.returns-clause-nothing_came
unfolding on_samples
returns-clause-nothing_came c h = (h.0 (omega arith)).came

pub returns-clause-from_afar : goal.returns-clause-from_afar
unfolding on_samples
returns-clause-from_afar c h = ⊎_elim (λ b. false≢true b.2) (λ n. n) (h.1.0 (omega arith)).came

pub returns-clause-of_other : goal.returns-clause-of_other
unfolding on_samples
returns-clause-of_other c h = ⊎_elim (λ b. let same : 1 ≡ 0 = ap (λ (t : Tenancy). t.instance.0) b.0 in omega (arith, same)) (λ n. n) (h.1.0 (omega arith)).came

pub returns-clause-too_old : goal.returns-clause-too_old
unfolding on_samples
returns-clause-too_old c h = ⊎_elim (λ b. ⊎_elim (λ at. omega (arith, at)) (λ before. omega (arith, before)) b.1) (λ n. n) (h.1.0 (omega arith)).came

pub returns-clause-not_its_own : goal.returns-clause-not_its_own
unfolding on_samples
returns-clause-not_its_own c h = let for_cub = (h.1.0 (omega arith)).for_cub in omega (arith, for_cub)

pub returns-clause-not_its_backup : goal.returns-clause-not_its_backup
unfolding on_samples
returns-clause-not_its_backup c h = let for_cub = (h.1.0 (omega arith)).for_cub in omega (arith, for_cub)

pub returns-clause-other_put : goal.returns-clause-other_put
unfolding on_samples
returns-clause-other_put c h = ⊎_elim (λ b. let same : 1 ≡ 0 = ap (λ (t : Tenancy). t.instance.0) b.0 in omega (arith, same)) (λ n. n) (h.1.0 (omega arith)).came

pub returns-clause-soon : goal.returns-clause-soon
unfolding on_samples
returns-clause-soon c = ((λ n. tt), ((λ n. record { for_cub = refl; came = inl (refl, inl refl, refl); soon = omega arith }), tt))

pub returns-clause-too_soon : goal.returns-clause-too_soon
unfolding on_samples
returns-clause-too_soon c h = let soon = (h.1.0 (omega arith)).soon in omega (arith, soon)
