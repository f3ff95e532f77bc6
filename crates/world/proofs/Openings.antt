-- One link more on which nothing was sent.
use Rattle.std.proofs.Common.{◌≡◌, ℕ, zero, suc, ◌+◌, [], ◌∷◌, ◌++◌, refl, ap, ◌∙◌, arith}
use Rattle.ring_world.specs.Machine.{empty_ways}

at_end : {M : Type 0} (k : ℕ) → ◌≡◌ (empty_ways {M = M} k ++ (record { gone = 0; under_way = [] }) ∷ []) (empty_ways (suc k))
at_end zero = refl
at_end {M} (suc k) = ap (λ ws. (record { gone = 0; under_way = [] }) ∷ ws) (at_end {M = M} k)

pub one_way_more : {M : Type 0} (k : ℕ) → ◌≡◌ (empty_ways {M = M} k ++ (record { gone = 0; under_way = [] }) ∷ []) (empty_ways (k + 1))
one_way_more {M} k = let more : suc k ≡ k + 1 = omega arith in at_end {M = M} k ∙ ap (λ n. empty_ways {M = M} n) more
