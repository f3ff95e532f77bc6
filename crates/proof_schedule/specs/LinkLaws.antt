-- What the links give, of each kind of message: what came was sent, and comes in time.
use Rattle.std.specs.Prelude.{◌≡◌, ℕ, ◌+◌, ◌<◌, ◌≤◌, ◌⊎◌}
use Rattle.tiger_base.specs.declared.tenancy.Ask.{Ask}
use Rattle.tiger_base.specs.declared.tenancy.Tenancy.{Tenancy}
use Rattle.slot_plan.specs.declared.params.Params.{Params}
use Rattle.slot_plan.specs.Times.{cub_of}
use Rattle.proof_schedule.specs.Facts.{Facts, GotBy, GotTagBy, GotBareBy, IsBeside, IsSameLife}

-- A viewer state that cub c got in beat y was sent to it: at least one beat before, at most the
-- greatest delay, and in that life, since what is on its way to a cub that is dead is lost.
pub record WasSent (p : Params) (r : Facts) (c : ℕ) (t : Tenancy) (m y : ℕ) : Type 0 where
  pub from : ℕ
  pub ahead : ℕ
  pub beat : ℕ
  pub sent : r.Sent from ahead t m beat
  pub to : c ≡ cub_of p (from + ahead)
  pub later : beat < y
  pub soon : y ≤ beat + p.delay
  pub life : IsSameLife r c beat y

-- A start that was got in beat y was sent by the controller.
pub record WasBegun (p : Params) (r : Facts) (ask : Ask) (y : ℕ) : Type 0 where
  pub beat : ℕ
  pub begun : r.Begun ask beat
  pub later : beat < y
  pub soon : y ≤ beat + p.delay

-- Cub c heard a heartbeat after one beat, and by another.
pub record HeardIn (r : Facts) (c from until : ℕ) : Type 0 where
  pub beat : ℕ
  pub heard : r.Heard c beat
  pub after : from < beat
  pub by : beat ≤ until

-- A deschedule with a tag that cub c got in beat y came from the controller, which sends it to the
-- tag's cub and the next one.
pub record TagFromController (p : Params) (r : Facts) (c v s q y : ℕ) : Type 0 where
  pub beat : ℕ
  pub stopped : r.StoppedAt v s q beat
  pub to : IsBeside p c q
  pub later : beat < y
  pub soon : y ≤ beat + p.delay
  pub life : IsSameLife r c beat y

-- Or it came from a cub, as the k-th cub after that one.
pub record TagFromCub (p : Params) (r : Facts) (c v s q y : ℕ) : Type 0 where
  pub from : ℕ
  pub ahead : ℕ
  pub beat : ℕ
  pub told : r.Told from ahead v s q beat
  pub to : c ≡ cub_of p (from + ahead)
  pub later : beat < y
  pub soon : y ≤ beat + p.delay
  pub life : IsSameLife r c beat y

-- A deschedule without a tag came from the controller, which sends it to the cub of the start's
-- disk and the next one.
pub record BareFrom (p : Params) (r : Facts) (c v y : ℕ) : Type 0 where
  pub disk : ℕ
  pub beat : ℕ
  pub stopped : r.StoppedWaiting v disk beat
  pub to : IsBeside p c disk
  pub later : beat < y
  pub soon : y ≤ beat + p.delay
  pub life : IsSameLife r c beat y

-- The laws of the links. "In time" is before the receiver comes to its tick of the last beat in
-- which the message may come, if it has not come back since the message was sent.
pub record LinkLaws (p : Params) (r : Facts) : Type 0 where
  -- A viewer state that was got was sent.
  pub carried : {c : ℕ} {t : Tenancy} {m y : ℕ} → r.Got c t m y → WasSent p r c t m y
  -- A viewer state that was sent comes in time.
  pub arrives : {a k : ℕ} {t : Tenancy} {m x : ℕ} (c b : ℕ)
      → r.Sent a k t m x → c ≡ cub_of p (a + k) → r.Came c b
      → IsSameLife r c x b → x + p.delay ≤ b
      → GotBy r c t m (x + p.delay)
  -- A plain start that was got was sent by the controller.
  pub asked_from : {c : ℕ} {ask : Ask} {y : ℕ} → r.Asked c ask y → WasBegun p r ask y
  -- A redundant start that was got was sent by the controller.
  pub apart_from : {c : ℕ} {ask : Ask} {y : ℕ} → r.AskedApart c ask y → WasBegun p r ask y
  -- A heartbeat that was sent comes in time.
  pub heard : {a x : ℕ} (c b : ℕ)
      → r.Beat a x → c ≡ cub_of p (a + 1) → r.Came c b
      → IsSameLife r c x b → x + p.delay ≤ b
      → HeardIn r c x (x + p.delay)
  -- A deschedule with a tag that was got was sent, by the controller or by a cub.
  pub tag_from : {c v s q y : ℕ}
      → r.GotTag c v s q y → TagFromController p r c v s q y ⊎ TagFromCub p r c v s q y
  -- A deschedule without a tag that was got was sent by the controller.
  pub bare_from : {c v y : ℕ} → r.GotBare c v y → BareFrom p r c v y
  -- A deschedule that a cub sent comes in time.
  pub told_arrives : {a k v s q x : ℕ} (c b : ℕ)
      → r.Told a k v s q x → c ≡ cub_of p (a + k) → r.Came c b
      → IsSameLife r c x b → x + p.delay ≤ b
      → GotTagBy r c v s q (x + p.delay)
  -- A deschedule with a tag that the controller sent comes in time to the tag's cub and the next.
  pub tag_arrives : {v s n x : ℕ} (c b : ℕ)
      → r.StoppedAt v s n x → IsBeside p c n → r.Came c b
      → IsSameLife r c x b → x + p.delay ≤ b
      → GotTagBy r c v s n (x + p.delay)
  -- A deschedule without a tag comes in time to the cub of the disk and the next one.
  pub bare_arrives : {v d x : ℕ} (c b : ℕ)
      → r.StoppedWaiting v d x → IsBeside p c d → r.Came c b
      → IsSameLife r c x b → x + p.delay ≤ b
      → GotBareBy r c v (x + p.delay)
