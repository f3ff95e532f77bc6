-- What the rules on starts and insertion give: where a Put's start comes from, and who waits.
use Rattle.std.specs.Prelude.{◌≡◌, ℕ, ◌+◌, ◌<◌, ◌≤◌, ◌⊎◌}
use Rattle.tiger_base.specs.declared.tenancy.Ask.{Ask}
use Rattle.tiger_base.specs.declared.tenancy.Tenancy.{Tenancy}
use Rattle.slot_plan.specs.declared.params.Params.{Params}
use Rattle.slot_plan.specs.Times.{due, cub_of, disk_of}
use Rattle.proof_schedule.specs.Facts.{Facts, ReachedBy, BelievedBy, IsReleasedBy, IsUnheld, IsFor, IsFirstLife}
use Rattle.proof_schedule.specs.StateLaws.{Stands}

-- A visit of a slot is in the window at a reading.
abbrev pub IsInWindow : Params → ℕ → ℕ → ℕ → Type 0
IsInWindow p l s n = (due p s n ≤ l + p.window_a) × (l + p.window_b < due p s n)

-- Instance v was put already, as far as cub c can tell: it put it, or got a state of it.
pub record IsPlacedBy (r : Facts) (c v b : ℕ) : Type 0 where
  pub beat : ℕ
  pub tenancy : Tenancy
  pub same : tenancy.instance.0 ≡ v
  pub visit : ℕ
  pub how : r.Put c tenancy beat ⊎ r.Got c tenancy visit beat
  pub by : beat ≤ b

-- A record of a slot's visit had left cub c's view before beat b, since it was due at a tick.
pub record HadLeft (p : Params) (r : Facts) (c s n b : ℕ) : Type 0 where
  pub beat : ℕ
  pub reading : ℕ
  pub ticked : r.Ticked c beat reading
  pub before : beat < b
  pub due : due p s n ≤ reading

-- The start of a Put of beat x, as it came to cub c. A cub discards a start whose instance it holds
-- or has a record of, and drops it at a state or a deschedule that comes later. So each hold of the
-- instance was over when the start came, and each record of it that a state gave had left.
pub record Comes (p : Params) (r : Facts) (c : ℕ) (t : Tenancy) (x : ℕ) : Type 0 where
  pub ask : Ask
  pub asked : IsFor (disk_of p) ask t
  pub start : ℕ
  pub came : r.Asked c ask start ⊎ r.AskedApart c ask start
  pub before : start ≤ x
  pub since : IsUnheld p r c t.instance.0 x start
  pub unshown : (u : Tenancy) (n y : ℕ)
      → r.Took c u n y → u.instance.0 ≡ t.instance.0 → y ≤ x
      → HadLeft p r c u.slot.0 n start ⊎ IsReleasedBy p r c t.instance.0 start

-- Cub c has a start for the disk of visit n: the plain one as the visit's cub, or the redundant one
-- as the next cub, which believes the visit's cub dead.
pub record Waits (p : Params) (r : Facts) (c : ℕ) (ask : Ask) (n y b : ℕ) : Type 0 where
  pub disk : ask.disk.0 ≡ disk_of p n
  pub how : (r.Asked c ask y × (c ≡ cub_of p n))
      ⊎ (r.AskedApart c ask y × (c ≡ cub_of p (n + 1)) × BelievedBy r c b)

-- The laws of starts: of the controller's orders, and of one cub's lists.
pub record StartLaws (p : Params) (r : Facts) : Type 0 where
  -- Controller: an instance has one order, of one beat.
  pub one_order : {a b : Ask} {x y : ℕ}
      → r.Begun a x → r.Begun b y → a.instance.0 ≡ b.instance.0 → (b ≡ a) × (y ≡ x)
  -- Controller: an instance is stopped in the beat of its order, or after it.
  pub gone_after : {ask : Ask} {o z : ℕ} → r.Begun ask o → r.Gone ask.instance.0 z → o ≤ z
  -- Start and insertion: a Put is of a start that came.
  pub comes : {c : ℕ} {t : Tenancy} {x : ℕ} → r.Put c t x → Comes p r c t x
  -- Insertion: a start that is put leaves the lists and never comes again, so that a cub puts an
  -- instance once.
  pub once : {c : ℕ} {t u : Tenancy} {x y : ℕ}
      → r.Put c t x → r.Put c u y → u.instance.0 ≡ t.instance.0 → (u ≡ t) × (y ≡ x)
  -- Start and insertion: while a start waits at a cub in its first life, a record stands at each
  -- visit of its disk in the window. A cub that has come back discards starts.
  pub waits : {c : ℕ} {ask : Ask} {y b l : ℕ} (s n : ℕ)
      → Waits p r c ask n y b → y ≤ b → r.Ticked c b l → IsFirstLife r c b
      → s < p.slots → IsInWindow p l s n
      → Stands p r c s n b ⊎ (IsPlacedBy r c ask.instance.0 b ⊎ ReachedBy r c ask.instance.0 b)
