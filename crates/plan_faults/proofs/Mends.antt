-- That each condition is mended by the number that it names.
use Rattle.std.proofs.Common.{◌≡◌, ℕ, ◌+◌, ◌*◌, ◌<◌, ◌≤◌, ◌↔◌, nat_lt, nat_le, Bool, true, false, cond, List, [], ◌∷◌, filter, arith, ⊎_elim}
use Rattle.std.specs.Int.{div_ceil}
use Rattle.std.proofs.lemmas.Bool.{ltb-true, leb-true, lt-ltb, le-leb, cases_lt}
use Rattle.std.proofs.lemmas.Grind.{div_ceil_times}
use Rattle.std.proofs.Math.Nat.{mul-le-mul_right, add-mul}
use Rattle.slot_plan.specs.declared.params.Params.{Params}
use Rattle.slot_plan.specs.Conditions.{IsInRange}
use Rattle.plan_faults.specs.declared.condition.Condition.{Condition}
use Rattle.plan_faults.specs.Faults.{conditions}
use Rattle.plan_faults.specs.Mends.{IsMended, AreMended}

by_le : (a n : ℕ) → (nat_le a n ≡ true) ↔ (a ≤ n)
by_le a n = (λ e. leb-true a n e, λ h. le-leb a n h)

by_lt : (a n : ℕ) → (nat_lt a n ≡ true) ↔ (a + 1 ≤ n)
by_lt a n = (λ e. (let h = ltb-true a n e in omega (arith, h)), λ h. lt-ltb a n (omega (arith, h)))

-- a number is at most a multiple of another one exactly if that many of it, rounded up, are at most as many
ceil_least : (a b n : ℕ) → 0 < b → a ≤ n * b → div_ceil a b ≤ n
ceil_least a b n some fits =
    let bounds = div_ceil_times a b some in ⊎_elim
    (λ (many : n < div_ceil a b).
    let up : (n + 1) * b ≤ div_ceil a b * b = mul-le-mul_right b (omega (arith, many)) in
    let sum = add-mul n 1 b in
    let high = bounds.1 in
    absurd (omega (arith, up, sum, high, fits)))
    (λ (few : div_ceil a b ≤ n). few)
    (cases_lt n (div_ceil a b))

ceil_fits : (a b n : ℕ) → 0 < b → div_ceil a b ≤ n → a ≤ n * b
ceil_fits a b n some few =
    let bounds = div_ceil_times a b some in
    let low = bounds.0 in
    let up : div_ceil a b * b ≤ n * b = mul-le-mul_right b few in
    omega (arith, low, up)

by_ceil : (a b n : ℕ) → 0 < b → (nat_le a (n * b) ≡ true) ↔ (div_ceil a b ≤ n)
by_ceil a b n some = (λ e. ceil_least a b n some (leb-true a (n * b) e), λ h. le-leb a (n * b) (ceil_fits a b n some h))

pub all_mended : (p : Params) → IsInRange p → AreMended p (conditions p)
unfolding conditions
all_mended p ranges =
    let some : 0 < p.play = omega (arith, ranges.play.0) in (
      λ n. by_lt _ n,
      (
        λ n. by_le _ n,
        (
          λ n. by_le _ n,
          (
            λ n. by_le _ n,
            (
              λ n. by_le _ n,
              (
                λ n. by_le _ n,
                (
                  λ n. by_ceil (p.max_lead + 4 * p.play) p.play n some,
                  (
                    λ n. by_le _ n,
                    (
                      λ n. by_le _ n,
                      (
                        λ n. by_le _ n,
                        (
                          λ n. by_le _ n,
                          (λ n. by_le _ n, tt),
                        ),
                      ),
                    ),
                  ),
                ),
              ),
            ),
          ),
        ),
      ),
    )

kept : (p : Params) (c : Condition) (rest : List Condition) (b : Bool) → IsMended p c → AreMended p rest → AreMended p (cond b (c ∷ rest) rest)
kept p c rest true one all = (one, all)
kept p c rest false one all = all

-- and so is each that passes a test
pub mended_among : (p : Params) (test : Condition → Bool) (cs : List Condition) → AreMended p cs → AreMended p (filter test cs)
mended_among p test [] all = tt
mended_among p test (c ∷ cs) all = kept p c (filter test cs) (test c) all.0 (mended_among p test cs all.1)
