-- What a cub's rules on deschedules give: how they are passed on, and what a hold keeps out.
use Rattle.std.specs.Prelude.{◌≡◌, ℕ, ◌+◌, ◌*◌, ◌<◌, ◌≤◌, ◌⊎◌}
use Rattle.tiger_base.specs.declared.tenancy.Tenancy.{Tenancy}
use Rattle.slot_plan.specs.declared.params.Params.{Params}
use Rattle.slot_plan.specs.Times.{time_of, due, cub_of}
use Rattle.proof_schedule.specs.Facts.{Facts, ReachedBy, PassedBy, GotTagBy, IsReleasedBy, EnteredAmong, IsBeside, IsSameLife}

-- How far a deschedule is passed on at a time: to visits that are due by then, and no further.
abbrev pub horizon : Params → ℕ → ℕ
horizon p time = time + p.max_lead + 2 * p.play + p.skew

-- Cub c's position is that of a tag that it got: the tag's visit, or the next one.
pub record ForTag (r : Facts) (c v s q y : ℕ) : Type 0 where
  pub visit : ℕ
  pub got : r.GotTag c v s visit y
  pub which : (q ≡ visit) ⊎ (q ≡ visit + 1)

-- Or that of a record of the instance, of the same life, at a deschedule without a tag.
pub record ForRecord (r : Facts) (c v s q y : ℕ) : Type 0 where
  pub got : r.GotBare c v y
  pub tenancy : Tenancy
  pub same : tenancy.instance.0 ≡ v
  pub slot : tenancy.slot.0 ≡ s
  pub visit : ℕ
  pub beat : ℕ
  pub entered : EnteredAmong r c tenancy visit beat y
  pub life : IsSameLife r c beat y
  pub which : (q ≡ visit) ⊎ (q ≡ visit + 1)

-- Cub c got a deschedule of instance v without a tag in beat b or before it, in the same life.
pub record GotBareInLife (r : Facts) (c v b : ℕ) : Type 0 where
  pub beat : ℕ
  pub got : r.GotBare c v beat
  pub by : beat ≤ b
  pub life : IsSameLife r c beat b

-- A tag gave cub c no position: it stands neither at the tag's visit nor one after it.
pub record IsStray (p : Params) (r : Facts) (c v b : ℕ) : Type 0 where
  pub slot : ℕ
  pub visit : ℕ
  pub got : GotTagBy r c v slot visit b
  pub away : ¬ IsBeside p c visit

-- Or that of a state that comes while the instance is held, if no deschedule gave a position
-- before.
pub record ForState (p : Params) (r : Facts) (c v s q y : ℕ) : Type 0 where
  pub tenancy : Tenancy
  pub same : tenancy.instance.0 ≡ v
  pub slot : tenancy.slot.0 ≡ s
  pub visit : ℕ
  pub got : r.Got c tenancy visit y
  pub which : (q ≡ visit) ⊎ (q ≡ visit + 1)
  pub unplaced : GotBareInLife r c v y ⊎ IsStray p r c v y

-- Cub c passes a deschedule on from visit q of slot s. That visit is its own, and a tag, a record
-- or a state gives it.
pub record IsPass (p : Params) (r : Facts) (c v s q y : ℕ) : Type 0 where
  pub at : c ≡ cub_of p q
  pub reached : ReachedBy r c v y
  pub how : ForTag r c v s q y ⊎ (ForRecord r c v s q y ⊎ ForState p r c v s q y)

-- What cub a sends the k-th cub after it has the tag of the visit behind its position, and that
-- visit is within the horizon.
pub record IsTold (p : Params) (r : Facts) (a k v s q x : ℕ) : Type 0 where
  pub visit : ℕ
  pub next : q ≡ visit + 1
  -- A cub passes on what reached it, from a visit of its own.
  pub passed : r.Passed a v s visit x
  pub ahead : (k ≡ 1) ⊎ (k ≡ 2)
  pub soon : due p s q ≤ horizon p (time_of p x + p.skew)

-- The laws of deschedules, each of one cub.
pub record HoldLaws (p : Params) (r : Facts) : Type 0 where
  -- A deschedule has a tag or none.
  pub reached : {c v y : ℕ} → r.Reached c v y → ((s q : ℕ) × r.GotTag c v s q y) ⊎ r.GotBare c v y
  -- A deschedule with a tag is a deschedule.
  pub reached_tag : {c v s q y : ℕ} → r.GotTag c v s q y → r.Reached c v y
  -- A deschedule without a tag is a deschedule.
  pub reached_bare : {c v y : ℕ} → r.GotBare c v y → r.Reached c v y
  -- A cub passes on what reached it, from a position that the deschedule, a record or a state
  -- gives.
  pub pass : {c v s q y : ℕ} → r.Passed c v s q y → IsPass p r c v s q y
  -- A cub that passes a deschedule on sends it to the next two cubs, if the next visit is within
  -- the horizon and the cub does not die in that beat: in that life it comes to a tick yet.
  pub passes : {c v s q y b : ℕ}
      → r.Passed c v s q y → r.Came c b → y ≤ b → IsSameLife r c y b
      → due p s (q + 1) ≤ horizon p (time_of p y)
      → r.Told c 1 v s (q + 1) y × r.Told c 2 v s (q + 1) y
  -- A cub sends a deschedule only by passing it on.
  pub told : {a k v s q x : ℕ} → r.Told a k v s q x → IsTold p r a k v s q x
  -- A cub sends a deschedule to the next cub first: so that one is told, even if the sender dies.
  pub told_next : {a k v s q x : ℕ} → r.Told a k v s q x → r.Told a 1 v s q x
  -- A tag that comes to its visit's cub or the next one is passed on, or was before.
  pub tag_passes : {c v s q y : ℕ} → r.GotTag c v s q y → IsBeside p c q → PassedBy r c v y
  -- A deschedule without a tag that finds a record which is not due is passed on, or a tag came.
  pub record_passes : {c n x y : ℕ} {t : Tenancy}
      → r.GotBare c t.instance.0 y → EnteredAmong r c t n x y → IsSameLife r c x y
      → time_of p y + p.skew < due p t.slot.0 n
      → PassedBy r c t.instance.0 y ⊎ ((s q : ℕ) × GotTagBy r c t.instance.0 s q y)
  -- In one life a deschedule is passed on once while its instance is held.
  pub pass_once : {c v s q y u m z : ℕ}
      → r.Passed c v s q y → r.Passed c v u m z → y ≤ z → IsSameLife r c y z
      → ((m ≡ q) × (z ≡ y)) ⊎ IsReleasedBy p r c v z
  -- No record of an instance is taken while it is held.
  pub took : {c n x b : ℕ} {t : Tenancy}
      → r.Took c t n x → r.Reached c t.instance.0 b → b < x → IsSameLife r c b x
      → IsReleasedBy p r c t.instance.0 x
