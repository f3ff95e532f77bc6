use Rattle.std.proofs.Common.{◌≡◌, refl, ap, ⊎_elim, inl, inr, arith}
use Rattle.tiger_base.specs.declared.tenancy.Tenancy.{Tenancy}
use Rattle.run_model.proofs.OnSamples.{on_samples}
use Rattle.run_model.proofs.rows.sending.Goals as goal

pub returns-clause-has_own : goal.returns-clause-has_own
unfolding on_samples
returns-clause-has_own c = ((λ n. tt), ((λ n. record { for_cub = refl; came = inl (refl, inl refl); soon = omega arith }), ((λ n. inl (refl, refl, inr refl)), tt)))

pub returns-clause-has_none : goal.returns-clause-has_none
unfolding on_samples
returns-clause-has_none c h = h.1.0 (omega arith)

pub returns-clause-has_backup : goal.returns-clause-has_backup
unfolding on_samples
returns-clause-has_backup c h = ⊎_elim (λ b. let kind = b.1 in absurd (cc)) (λ n. n) (h.1.1.0 (omega arith))

pub returns-clause-has_earlier : goal.returns-clause-has_earlier
unfolding on_samples
returns-clause-has_earlier c h = ⊎_elim (λ b. ⊎_elim (λ at. omega (arith, at)) (λ before. omega (arith, before)) b.2) (λ n. n) (h.1.1.0 (omega arith))

pub returns-clause-has_other : goal.returns-clause-has_other
unfolding on_samples
returns-clause-has_other c h = ⊎_elim (λ b. let same : 0 ≡ 1 = ap (λ (t : Tenancy). t.instance.0) b.0 in omega (arith, same)) (λ n. n) (h.1.1.0 (omega arith))

pub returns-clause-had_before_death : goal.returns-clause-had_before_death
unfolding on_samples
returns-clause-had_before_death c h = h.1.1.1.1.0 (omega arith)

pub returns-clause-has_since_back : goal.returns-clause-has_since_back
unfolding on_samples
returns-clause-has_since_back c = ((λ n. tt), ((λ n. tt), ((λ n. tt), ((λ n. record { for_cub = refl; came = inl (refl, inl refl); soon = omega arith }), ((λ n. inl (refl, refl, inr refl)), tt)))))
