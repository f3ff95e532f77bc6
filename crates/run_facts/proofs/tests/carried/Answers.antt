use Rattle.std.proofs.Common.{refl, arith, ⊎_elim, inl, inr}
use Rattle.run_facts.proofs.tests.carried.Goals as goal

pub returns-clause-in_time : goal.returns-clause-in_time
returns-clause-in_time c = (refl, omega arith, omega arith, tt)

pub returns-clause-too_late : goal.returns-clause-too_late
returns-clause-too_late c h = let q = h.2 in omega (arith, q)

pub returns-clause-not_got : goal.returns-clause-not_got
returns-clause-not_got c h = ⊎_elim (λ l. omega (arith, l)) (λ d. d.0) h.0

pub returns-clause-at_end : goal.returns-clause-at_end
returns-clause-at_end c = (inl (omega arith), tt)

pub returns-clause-by_death : goal.returns-clause-by_death
returns-clause-by_death c = (inr (omega arith, tt), tt)

pub returns-clause-by_return : goal.returns-clause-by_return
returns-clause-by_return c = ((inr (omega arith, omega arith), tt), tt)

pub returns-clause-across : goal.returns-clause-across
returns-clause-across c h = h.1

pub returns-clause-behind : goal.returns-clause-behind
returns-clause-behind c h = ⊎_elim (λ l. omega (arith, l)) (λ d. let q = d.1 in omega (arith, q)) h.1.0
