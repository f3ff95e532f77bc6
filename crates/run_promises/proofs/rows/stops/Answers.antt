use Rattle.std.proofs.Common.{refl, arith, ⊎_elim, inl, inr}
use Rattle.std.proofs.lemmas.Bool.{false≢true}
use Rattle.run_model.specs.Samples.{gone, three}
use Rattle.run_model.proofs.OnSamples.{on_samples, of-eight}
use Rattle.run_promises.specs.Samples.{stopped_log}
use Rattle.run_promises.proofs.Stops.{another_has}
use Rattle.run_promises.proofs.rows.stops.Goals as goal

pub returns-clause-kept : goal.returns-clause-kept
unfolding on_samples
returns-clause-kept c = (
  of-eight _ tt tt tt tt tt tt tt tt,
  (
    of-eight _ tt tt tt tt tt tt tt tt,
    (
      of-eight _ (inl (record { holder = refl; first = omega arith; last = omega arith }), tt) tt tt tt tt tt tt tt,
      (of-eight _ (inr refl, tt) tt tt tt tt tt tt tt, of-eight _ (inr refl, tt) tt tt tt tt tt tt tt),
    ),
  ),
)

pub returns-clause-kept_longer : goal.returns-clause-kept_longer
unfolding on_samples
returns-clause-kept_longer c h = ⊎_elim (λ v. let holder = v.holder in absurd (cc)) (λ n. false≢true n) (h.1.1.1.1 0 (omega arith)).0

pub returns-clause-at_the_bound : goal.returns-clause-at_the_bound
unfolding on_samples
returns-clause-at_the_bound c = refl

pub returns-clause-has_record : goal.returns-clause-has_record
unfolding on_samples
returns-clause-has_record c h = (h 0 (omega arith)).0 refl

pub returns-clause-of_other : goal.returns-clause-of_other
unfolding on_samples
returns-clause-of_other c = of-eight _ ((λ e. omega (arith, e)), tt) tt tt tt tt tt tt tt

pub returns-clause-no_slot : goal.returns-clause-no_slot
returns-clause-no_slot c = another_has (stopped_log 120) 0 (gone 20 0) (record { 0 = 0 }) (inr (inr (inl refl))) refl refl

pub returns-clause-has_slot : goal.returns-clause-has_slot
unfolding on_samples
returns-clause-has_slot c h = h 1 three refl refl
