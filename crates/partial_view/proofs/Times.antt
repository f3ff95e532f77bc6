-- The block play time of a time.
use Rattle.std.proofs.Common.{◌≡◌, ℕ, ◌+◌, ◌*◌, ◌-◌, ◌/◌, ◌<◌, ◌≤◌, ap, ◌∙◌, arith}
use Rattle.std.proofs.lemmas.Nat.{le-div, div-add-mod'}
use Rattle.std.proofs.Math.Nat.{div-mul-le_self, div-lt_iff_lt-mul, mod-lt, add-mul, one-mul}

-- what is due within a block play time is of it
pub turn-of : (time d k : ℕ) → 1 ≤ k → time / k * k ≤ d → d ≤ time / k * k + (k - 1) → d / k ≡ time / k
turn-of time d k pos low high =
    let least = le-div (time / k) d k (omega (arith, pos)) low in
    let below : d < (time / k + 1) * k = let more : (time / k + 1) * k ≡ time / k * k + k = add-mul (time / k) 1 k ∙ ap (λ n. time / k * k + n) (one-mul k) in omega (arith, high, pos, more) in
    let most : d / k < time / k + 1 = (div-lt_iff_lt-mul {k = k} {x = d} {y = time / k + 1} (omega (arith, pos))).1 below in
    omega (arith, least, most)

-- a time lies within its block play time
pub turn-least : (time k : ℕ) → 1 ≤ k → (time / k * k ≤ time) × (time ≤ time / k * k + (k - 1))
turn-least time k pos =
    let parts = div-add-mod' time k in
    let rest = mod-lt time {m = k} (omega (arith, pos)) in
    (div-mul-le_self time k, omega (arith, parts, rest))
