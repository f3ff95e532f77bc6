-- A row of numbers that is changed place by place.
use Rattle.std.proofs.Common.{◌≡◌, ℕ, ◌<◌, ◌≤◌, List, length, get_or}

-- the first n places have changed, each as R says, and the others have not
pub record IsPartly (R : ℕ → ℕ → ℕ → Type 0) (n : ℕ) (old new : List ℕ) : Type 0 where
  pub len : length new ≡ length old
  pub done : (i : ℕ) → i < n → R i (get_or old i 0) (get_or new i 0)
  pub rest : (i : ℕ) → n ≤ i → get_or new i 0 ≡ get_or old i 0
