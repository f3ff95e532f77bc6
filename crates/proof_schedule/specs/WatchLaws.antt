-- What the cub's rules on heartbeats and the deadman give: who is believed dead was silent.
use Rattle.std.specs.Prelude.{◌≡◌, ℕ, ◌+◌, ◌%◌, ◌<◌, ◌≤◌}
use Rattle.slot_plan.specs.declared.params.Params.{Params}
use Rattle.slot_plan.specs.Times.{time_of}
use Rattle.proof_schedule.specs.Facts.{Facts, IsFirstLife}
use Rattle.proof_schedule.specs.RunLaws.{IsTick}

-- At cub c's tick of beat b its predecessor had been silent for longer than the deadman time, and
-- the cub had been back for as long if it has come back.
pub record IsSilence (p : Params) (r : Facts) (c b : ℕ) : Type 0 where
  pub reading : ℕ
  pub tick : IsTick p r c b reading
  pub long : p.deadman < reading
  pub since : (y : ℕ) → r.Heard c y → y ≤ b → time_of p y + p.deadman < reading
  pub back : (w : ℕ) → r.Returned c w → w ≤ b → time_of p w + p.deadman < reading

-- The laws of heartbeats and belief, each of one cub.
pub record WatchLaws (p : Params) (r : Facts) : Type 0 where
  -- Heartbeat: in its first life a cub sends one in each beat that is a multiple of the heartbeat's
  -- interval. One that has come back sends none, so that whoever believes it dead goes on to.
  pub beats : {c b l : ℕ} → r.Ticked c b l → IsFirstLife r c b → b % p.heart ≡ 0 → r.Beat c b
  -- Deadman: a cub believes its predecessor dead only after a silence.
  pub silent : {c b : ℕ} → r.Believed c b → IsSilence p r c b
