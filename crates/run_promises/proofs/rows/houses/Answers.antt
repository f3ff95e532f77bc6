use Rattle.std.proofs.Common.{refl, arith, ⊎_elim, inl, inr}
use Rattle.slot_plan.specs.Times.{time_of}
use Rattle.run_facts.specs.Commanded.{stop_ordered}
use Rattle.run_promises.specs.Samples.{many}
use Rattle.run_promises.proofs.Worked as worked
use Rattle.run_promises.proofs.rows.houses.Goals as goal

pub returns-clause-full : goal.returns-clause-full
returns-clause-full c k p s = record { few = omega arith; stops = λ v beat o. absurd (worked.no_stop_among (many 16) v beat (worked.many_begin 16) o) }

pub returns-clause-overfull : goal.returns-clause-overfull
returns-clause-overfull c k p s h = let few = h.few in omega (arith, few)

pub returns-clause-stopped_before : goal.returns-clause-stopped_before
unfolding time_of
returns-clause-stopped_before c k p s v beat o = let is = (worked.stop_is_in 899 v beat o).0 in inl (omega (arith, is))

pub returns-clause-just_stopped : goal.returns-clause-just_stopped
unfolding time_of stop_ordered
returns-clause-just_stopped c k p s h = ⊎_elim (λ l. omega (arith, l)) (λ l. omega (arith, l)) (h 0 900 refl)

pub returns-clause-stopped_after : goal.returns-clause-stopped_after
returns-clause-stopped_after c k p s v beat o = let is = (worked.stop_is_in 1101 v beat o).0 in inr (omega (arith, is))

pub returns-clause-stopped_last : goal.returns-clause-stopped_last
unfolding time_of stop_ordered
returns-clause-stopped_last c k p s h = ⊎_elim (λ l. omega (arith, l)) (λ l. omega (arith, l)) (h 0 1100 refl)
