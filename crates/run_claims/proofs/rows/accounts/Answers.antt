use Rattle.std.proofs.Common.{refl, ⊎_elim, inl, arith}
use Rattle.slot_plan.specs.Times.{time_of}
use Rattle.run_claims.proofs.rows.accounts.Goals as goal

pub returns-clause-ends : goal.returns-clause-ends
unfolding time_of
returns-clause-ends c s = refl

pub returns-clause-commands : goal.returns-clause-commands
returns-clause-commands c s = refl

pub returns-clause-clock : goal.returns-clause-clock
returns-clause-clock c s = refl

pub returns-clause-ticked : goal.returns-clause-ticked
returns-clause-ticked c s = inl (refl, refl, refl)

pub returns-clause-not_ticked : goal.returns-clause-not_ticked
returns-clause-not_ticked c s h =
    ⊎_elim (λ a. let beat = a.1 in omega (arith, beat))
    (λ b. ⊎_elim (λ a. let node = a.0 in omega (arith, node)) (λ d. ⊎_elim (λ a. let node = a.0 in omega (arith, node)) (λ n. n) d) b) h
