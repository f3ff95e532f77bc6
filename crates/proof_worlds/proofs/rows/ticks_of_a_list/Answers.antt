use Rattle.std.proofs.Common.{ℕ, List, [], ◌∷◌, length, refl, ap, arith}
use Rattle.run_claims.specs.Accounts.{Ticking}
use Rattle.proof_worlds.proofs.rows.ticks_of_a_list.Goals as goal

-- the reading of the first tick; 0 if there is none
abbrev first_reading : List Ticking → ℕ
first_reading [] = 0
first_reading (t ∷ ts) = t.reading

pub returns-clause-all : goal.returns-clause-all
returns-clause-all c = refl

pub returns-clause-no_tick : goal.returns-clause-no_tick
returns-clause-no_tick c = refl

pub returns-clause-not_of_cubs_alone : goal.returns-clause-not_of_cubs_alone
returns-clause-not_of_cubs_alone c same = let count = ap (λ (ts : List Ticking). length ts) same in omega (arith, count)

pub returns-clause-not_at_the_true_time : goal.returns-clause-not_at_the_true_time
returns-clause-not_at_the_true_time c same = let reading = ap first_reading same in omega (arith, reading)
