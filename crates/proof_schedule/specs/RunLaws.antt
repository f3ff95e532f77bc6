-- What the runner and the clocks give: how far cubs are apart, and what a death ends.
use Rattle.std.specs.Prelude.{◌≡◌, ℕ, ◌+◌, ◌<◌, ◌≤◌, ◌⊎◌}
use Rattle.tiger_base.specs.declared.tenancy.Tenancy.{Tenancy}
use Rattle.slot_plan.specs.declared.params.Params.{Params}
use Rattle.slot_plan.specs.Times.{time_of, cub_of}
use Rattle.proof_schedule.specs.Facts.{Facts, Ended, LivedTo, LastReturn, DiedBy, IsFirstLife, IsSameLife}

-- Cub c came to its tick of beat b at a reading within the skew. Its death may have cut the tick
-- off.
pub record IsTick (p : Params) (r : Facts) (c b l : ℕ) : Type 0 where
  pub came : r.Came c b
  pub low : time_of p b ≤ l
  pub high : l ≤ time_of p b + p.skew

-- The laws of the runner and the clocks.
pub record RunLaws (p : Params) (r : Facts) : Type 0 where
  -- A cub that ended a beat came to its tick.
  pub came : {c b l : ℕ} → r.Ticked c b l → r.Came c b
  -- Nobody is a whole beat behind: before a cub comes to a beat's tick, each cub has ended every
  -- lower beat in its first life, or has died.
  pub up : {c b d a : ℕ} → r.Came c b → a < b → d < p.cubs → LivedTo r d a ⊎ DiedBy r d a
  -- In its first life a cub comes to no tick after the beat of its death.
  pub last : {c b a : ℕ} → r.Came c b → r.Died c a → IsFirstLife r c b → b ≤ a
  -- A cub that comes to a tick after the beat of its death has come back since.
  pub again : {c b a : ℕ}
      → r.Came c b → r.Died c a → a < b → (w : ℕ) × r.Returned c w × (a < w) × (w ≤ b)
  -- Who comes back has died.
  pub returned : {c w : ℕ} → r.Returned c w → DiedBy r c w
  -- By each beat a cub has not come back, or there is a last time.
  pub returns : (c b : ℕ) → IsFirstLife r c b ⊎ LastReturn r c b
  -- Of two neighbours at most one dies.
  pub apart : {c d a b : ℕ} → r.Died c a → r.Died d b → d ≡ cub_of p (c + 1) → ⊥
  -- A cub that takes a viewer state has ended each lower beat of that life.
  pub got_ended : {c m y b : ℕ} {t : Tenancy}
      → r.Got c t m y → b < y → IsSameLife r c b y → Ended r c b
  -- A cub that takes a deschedule has ended each lower beat of that life.
  pub reached_ended : {c v y b : ℕ} → r.Reached c v y → b < y → IsSameLife r c b y → Ended r c b
  -- A reading is the true time of its beat, or at most the skew above it.
  pub reads : {c b l : ℕ} → r.Ticked c b l → (time_of p b ≤ l) × (l ≤ time_of p b + p.skew)
