use Rattle.std.proofs.Common.{refl, arith, ⊎_elim, inl, inr}
use Rattle.slot_plan.specs.Times.{takeover}
use Rattle.run_model.proofs.OnSamples.{on_samples}
use Rattle.run_promises.proofs.rows.rounds.Goals as goal

pub returns-clause-small : goal.returns-clause-small
unfolding takeover
returns-clause-small c = omega arith

pub returns-clause-just : goal.returns-clause-just
unfolding takeover
returns-clause-just c = omega arith

pub returns-clause-too_late : goal.returns-clause-too_late
unfolding takeover
returns-clause-too_late c h = omega (arith, h)

pub returns-clause-first_lost : goal.returns-clause-first_lost
unfolding on_samples
returns-clause-first_lost c = (inl (tt, (omega arith, omega arith)), inl refl)

pub returns-clause-second_lost : goal.returns-clause-second_lost
unfolding on_samples
returns-clause-second_lost c = (inl (tt, (omega arith, omega arith)), inr (λ back. ⊎_elim (λ x. x.0) (λ n. n) back))
