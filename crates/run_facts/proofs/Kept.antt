-- The states in which nodes begin, by number.
use Rattle.std.proofs.Common.{◌≡◌, ℕ, ◌<◌, ◌≤◌, List, [], ◌∷◌, length, get_or, Some}
use Rattle.std.proofs.Common.{arith}
use Rattle.std.specs.Prelude.{slice_get}
use Rattle.std.proofs.lemmas.Option.{slice_get-get_or}

-- the first states of nodes, of which there is one
pub firsts : {S : Type 0} (given : List S) → 1 ≤ length given
    → (first : ℕ → S) × ((k : ℕ) → k < length given → slice_get given k ≡ Some (first k))
firsts [] h = absurd (omega (arith, h))
firsts {S} (x ∷ xs) h = ((λ k. get_or (x ∷ xs) k x), (λ k low. slice_get-get_or (x ∷ xs) k x low))
