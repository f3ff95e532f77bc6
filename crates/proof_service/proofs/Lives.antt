-- How long a cub lives: its first life from beat 0 on, and its second from its return on.
use Rattle.std.proofs.Common.{◌≡◌, ℕ, ◌≤◌, arith, ⊎_elim}
use Rattle.std.specs.Prelude.{◌⊎◌}
use Rattle.proof_schedule.specs.Facts.{Facts, Ended, IsSameLife}

-- Cub c lives from one beat to another: it ended each beat between, all of them are of one life,
-- and that began with the first of them.
pub record Lives (r : Facts) (c from until : ℕ) : Type 0 where
  pub ended : (b : ℕ) → from ≤ b → b ≤ until → Ended r c b
  pub one : IsSameLife r c from until
  pub begins : (from ≡ 0) ⊎ r.Returned c from

-- Two beats between which a cub lives are of one life.
pub in_life : {r : Facts} {c from until : ℕ} → Lives r c from until → (x b : ℕ)
    → from ≤ x → b ≤ until → IsSameLife r c x b
in_life h x b low le = λ v back by. let m = h.one v back (omega arith) in omega arith

-- A beat of the same life as one in which the cub lives is not before that life began.
pub since_life : {r : Facts} {c from until : ℕ} → Lives r c from until → (x b : ℕ)
    → from ≤ b → IsSameLife r c x b → from ≤ x
since_life {r} {c} {from} {until} h x b low same = ⊎_elim
    (λ (z : from ≡ 0). omega arith)
    (λ back. same from back low)
    h.begins
