use Rattle.std.proofs.Common.{◌≡◌, refl, ap, ⊎_elim, inl, inr, arith}
use Rattle.std.proofs.lemmas.Bool.{false≢true}
use Rattle.tiger_base.specs.declared.tenancy.Tenancy.{Tenancy}
use Rattle.run_model.specs.Samples.{seat, three}
use Rattle.run_model.proofs.OnSamples.{on_samples, of-eight}
use Rattle.run_model.proofs.rows.part.Goals as goal

pub returns-clause-held : goal.returns-clause-held
unfolding on_samples
returns-clause-held c = (of-eight _ tt tt tt tt tt tt tt tt, (of-eight _ tt tt tt tt tt tt tt tt, of-eight _ (inl (record { holder = refl; first = omega arith; last = omega arith }), tt) tt tt tt tt tt tt tt))

pub returns-clause-never_put : goal.returns-clause-never_put
unfolding on_samples
returns-clause-never_put c h = ⊎_elim (λ v. let holder = v.holder in absurd (cc)) (λ n. false≢true n) (h.1 7 (omega arith)).0

pub returns-clause-held_by_other : goal.returns-clause-held_by_other
unfolding on_samples
returns-clause-held_by_other c h = ⊎_elim (λ v. let holder = v.holder in let same : seat 1 0 2 ≡ three = cc in let one : 1 ≡ 0 = ap (λ (t : Tenancy). t.instance.0) same in omega (arith, one)) (λ n. false≢true n) (h.1.1 0 (omega arith)).0

pub returns-clause-for_a_while : goal.returns-clause-for_a_while
unfolding on_samples
returns-clause-for_a_while c h = ⊎_elim (λ v. let holder = v.holder in absurd (cc)) (λ n. false≢true n) (h.1.0 0 (omega arith)).0

pub returns-clause-behind : goal.returns-clause-behind
unfolding on_samples
returns-clause-behind c h = ⊎_elim (λ v. let last = v.last in omega (arith, last)) (λ n. false≢true n) (h.1.1 0 (omega arith)).0

pub returns-clause-before : goal.returns-clause-before
unfolding on_samples
returns-clause-before c h = ⊎_elim (λ v. let first = v.first in omega (arith, first)) (λ n. false≢true n) (h.1.1 0 (omega arith)).0

pub returns-clause-just_stopped : goal.returns-clause-just_stopped
unfolding on_samples
returns-clause-just_stopped c = (of-eight _ tt tt tt tt tt tt tt tt, (of-eight _ tt tt tt tt tt tt tt tt, of-eight _ (inr refl, tt) tt tt tt tt tt tt tt))

pub returns-clause-long_stopped : goal.returns-clause-long_stopped
unfolding on_samples
returns-clause-long_stopped c h = ⊎_elim (λ v. let holder = v.holder in absurd (cc)) (λ n. false≢true n) (h.1.1 0 (omega arith)).0

pub returns-clause-other_stopped : goal.returns-clause-other_stopped
unfolding on_samples
returns-clause-other_stopped c h = ⊎_elim (λ v. let holder = v.holder in absurd (cc)) (λ n. false≢true n) (h.1.1 0 (omega arith)).0

pub returns-clause-stays : goal.returns-clause-stays
unfolding on_samples
returns-clause-stays c h = ⊎_elim (λ v. let holder = v.holder in absurd (cc)) (λ n. false≢true n) (h.1.1.1 0 (omega arith)).0

pub returns-clause-forgotten : goal.returns-clause-forgotten
unfolding on_samples
returns-clause-forgotten c = (of-eight _ tt tt tt tt tt tt tt tt, (of-eight _ tt tt tt tt tt tt tt tt, (of-eight _ (inr refl, tt) tt tt tt tt tt tt tt, (of-eight _ tt tt tt tt tt tt tt tt, (of-eight _ tt tt tt tt tt tt tt tt, of-eight _ tt tt tt tt tt tt tt tt)))))

pub returns-clause-taken_again : goal.returns-clause-taken_again
unfolding on_samples
returns-clause-taken_again c h = ⊎_elim (λ v. let holder = v.holder in absurd (cc)) (λ n. false≢true n) (h.1.1.1.1 0 (omega arith)).0
