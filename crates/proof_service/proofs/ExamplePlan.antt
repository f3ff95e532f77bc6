-- The plan of the worked runs: it meets all conditions, and these are its times, dues and cubs.
use Rattle.std.proofs.Common.{◌≡◌, ℕ, zero, suc, ◌+◌, ◌*◌, ◌<◌, ◌≤◌, refl, sym, arith, ⊎_elim}
use Rattle.std.proofs.lemmas.Bool.{cases_lt}
use Rattle.slot_plan.specs.Conditions.{IsPlan}
use Rattle.slot_plan.specs.Times.{time_of, first_due, due, cub_of}
use Rattle.slot_plan.proofs.Times.{same_cub}
use Rattle.proof_schedule.proofs.Example.{beating_plan}
use Rattle.proof_service.specs.Example.{plan}

-- The plan meets all conditions.
pub plan_is : IsPlan plan
plan_is = beating_plan 1 (omega arith) (omega arith)

-- Times, due times and cubs of the plan.
pub time_is : (b : ℕ) → time_of plan b ≡ b * 10000
unfolding time_of
time_is b = refl

pub due_is : (n : ℕ) → due plan 1 n ≡ 500000 + n * 1000000
unfolding due first_due
due_is n = refl

pub cub_1 : cub_of plan 1 ≡ 1
unfolding cub_of
cub_1 = refl

pub cub_2 : cub_of plan 2 ≡ 2
unfolding cub_of
cub_2 = refl

-- Each cub has a cub before it.
pub before : (c : ℕ) → c < 8 → (a : ℕ) × (a < 8) × (c ≡ cub_of plan (a + 1))
unfolding cub_of
before zero small = (7, omega arith, refl)
before (suc c) small = (c, omega arith, omega arith)

-- And that is one.
pub one_before : (a d : ℕ) → a < 8 → d < 8 → cub_of plan (a + 1) ≡ cub_of plan (d + 1) → a ≡ d
one_before a d small less e = ⊎_elim
    (λ (l : a < d).
    let z = same_cub plan (a + 1) (d + 1) e (omega arith) (omega arith) in
    omega arith)
    (λ (l : d ≤ a).
    let z = same_cub plan (d + 1) (a + 1) (sym e) (omega arith) (omega arith) in
    omega arith)
    (cases_lt a d)
