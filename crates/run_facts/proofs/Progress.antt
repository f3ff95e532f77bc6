-- How many beats each node has come through, in a run that takes its nodes in turn.
use Rattle.std.proofs.Common.{◌≡◌, ◌≢◌, ℕ, suc, ◌+◌, ◌≤◌, true, false, refl, arith}
use Rattle.std.proofs.Common.{⊎_elim}
use Rattle.std.specs.Prelude.{nat_lt, if◌then◌else◌}
use Rattle.std.proofs.lemmas.Bool.{cases_Bool}
use Rattle.std.proofs.lemmas.Bool.Decides.{nat_tests}

-- the number of beats that node k has come through, where the nodes below n have come through beat b
abbrev pub next_of : ℕ → ℕ → ℕ → ℕ
next_of b n k = if nat_lt k n then b + 1 else b

pub next-here : (b n : ℕ) → next_of b n n ≡ b
next-here b n = let e : nat_lt n n ≡ false = grind (arith, nat_tests) in rw e refl

pub next-then : (b n : ℕ) → next_of b (suc n) n ≡ b + 1
next-then b n = let e : nat_lt n (suc n) ≡ true = grind (arith, nat_tests) in rw e refl

pub next-other : (b n k : ℕ) → k ≢ n → next_of b (suc n) k ≡ next_of b n k
next-other b n k other = ⊎_elim
    (λ (e : nat_lt k n ≡ true). let f : nat_lt k (suc n) ≡ true = grind (arith, nat_tests, e) in rw (e, f) refl)
    (λ (e : nat_lt k n ≡ false). let f : nat_lt k (suc n) ≡ false = grind (arith, nat_tests, e, other) in
    rw (e, f) refl)
    (cases_Bool (nat_lt k n))

pub next-low : (b n k : ℕ) → next_of b n k ≤ b + 1
next-low b n k = ⊎_elim
    (λ (e : nat_lt k n ≡ true). rw e (omega arith))
    (λ (e : nat_lt k n ≡ false). rw e (omega arith))
    (cases_Bool (nat_lt k n))

pub next-none : (b k : ℕ) → next_of b 0 k ≡ b
next-none b k = let e : nat_lt k 0 ≡ false = grind (arith, nat_tests) in rw e refl
