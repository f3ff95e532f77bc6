-- What it means that there is one schedule, where instances are stopped and cubs die and come back.
use Rattle.std.specs.Prelude.{◌≡◌, ◌≢◌, ℕ, ◌+◌, ◌*◌, ◌<◌, ◌≤◌, ◌⊎◌, List}
use Rattle.tiger_base.specs.declared.tenancy.Ask.{Ask}
use Rattle.tiger_base.specs.declared.tenancy.Tenancy.{Tenancy}
use Rattle.slot_plan.specs.declared.params.Params.{Params}
use Rattle.slot_plan.specs.Conditions.{IsPlan}
use Rattle.slot_plan.specs.Times.{time_of, due, cub_of, disk_of}
use Rattle.proof_schedule.specs.Facts.{Facts, PutBy, GoneBefore, ReachedBy, BelievedBy, DiedLongBefore, Cut, Entered, Knows, IsFor, IsFirstLife, IsOpenTo}
use Rattle.proof_schedule.specs.Laws.{Laws}
use Rattle.proof_schedule.specs.Logs.{Fact, facts_in}
use Rattle.proof_schedule.specs.StartLaws.{IsInWindow, Waits}

-- A tenancy is what an order asked.
pub record IsOrdered (p : Params) (r : Facts) (t : Tenancy) : Type 0 where
  pub ask : Ask
  pub beat : ℕ
  pub begun : r.Begun ask beat
  pub asked : IsFor (disk_of p) ask t

-- Tenancy t was put by beat b, and n is one of its visits.
pub record IsHeld (r : Facts) (t : Tenancy) (n b : ℕ) : Type 0 where
  pub cub : ℕ
  pub beat : ℕ
  pub put : r.Put cub t beat
  pub by : beat ≤ b
  pub low : t.first ≤ n
  pub high : n ≤ t.last

-- Visit n of slot s is taken in beat b: by a tenancy that was put, whose instance was stopped, if
-- at all, less than a block play time before.
pub record IsTaken (p : Params) (r : Facts) (s n b : ℕ) : Type 0 where
  pub holder : Tenancy
  pub slot : holder.slot.0 ≡ s
  pub held : IsHeld r holder n b
  pub recent : (z : ℕ) → r.Gone holder.instance.0 z → time_of p b < time_of p z + p.play

-- A visit may be in some cub's window from this beat on.
abbrev pub MayOpen : Params → Tenancy → ℕ → ℕ → Type 0
MayOpen p t n b = due p t.slot.0 n ≤ time_of p b + p.window_a + p.skew

-- A Put is by the cub of its first visit, or by the next cub, which believes that cub dead; and it
-- is dead.
abbrev pub PutsFor : Params → Facts → ℕ → Tenancy → ℕ → Type 0
PutsFor p r c t x = (c ≡ cub_of p t.first)
    ⊎ ((c ≡ cub_of p (t.first + 1)) × BelievedBy r c x × DiedLongBefore p r (cub_of p t.first) x)

-- There is one schedule: what holds of all Puts, records and starts of a run.
pub record IsOneSchedule (p : Params) (r : Facts) : Type 0 where
  -- Each Put finds its slot free: whoever was put there by then has ended, or was stopped in an
  -- earlier beat.
  pub free : (c d x y : ℕ) (t u : Tenancy)
      → r.Put c t x → r.Put d u y → y ≤ x → u.slot.0 ≡ t.slot.0 → u.instance.0 ≢ t.instance.0
      → (u.last < t.first) ⊎ GoneBefore r u.instance.0 x
  -- An instance is put once.
  pub once : (c d x y : ℕ) (t u : Tenancy)
      → r.Put c t x → r.Put d u y → u.instance.0 ≡ t.instance.0 → (d ≡ c) × (u ≡ t) × (y ≡ x)
  -- An instance is put as it was ordered.
  pub ordered : (c x : ℕ) (t : Tenancy) → r.Put c t x → IsOrdered p r t
  -- A Put is by the cub of its first visit, or by the next one if that cub is dead.
  pub who : (c x : ℕ) (t : Tenancy) → r.Put c t x → PutsFor p r c t x
  -- A cub that is believed dead is dead.
  pub trust : (c d b : ℕ)
      → r.Believed c b → c ≡ cub_of p (d + 1) → d < p.cubs → DiedLongBefore p r d b
  -- Of two tenancies of a slot, the one that is put later does not begin earlier.
  pub rising : (c d x y : ℕ) (t u : Tenancy)
      → r.Put c t x → r.Put d u y → y ≤ x → u.slot.0 ≡ t.slot.0 → u.first ≤ t.first
  -- The cub of a later visit knows it, from the first beat on in which that visit may be in a
  -- window. One that has come back knows what is due so late that it lets it in.
  pub kept : (c x b l n : ℕ) (t : Tenancy)
      → r.Put c t x → t.first < n → n ≤ t.last → MayOpen p t n b → r.Ticked (cub_of p n) b l
      → IsOpenTo p r (cub_of p n) (due p t.slot.0 n) b
      → Knows p r (cub_of p n) t n b
  -- If the cub of a later visit dies, in whatever beat, the next cub knows the visit as soon.
  pub beside : (c x b e l n : ℕ) (t : Tenancy)
      → r.Put c t x → t.first < n → n ≤ t.last → MayOpen p t n b
      → r.Died (cub_of p n) e → r.Ticked (cub_of p (n + 1)) b l
      → Knows p r (cub_of p (n + 1)) t n b
  -- The cub after the one that put knows the first visit a longest way later, again if it lets it
  -- in.
  pub first_backup : (c x b l : ℕ) (t : Tenancy)
      → r.Put c t x → c ≡ cub_of p t.first → r.Ticked (cub_of p (t.first + 1)) b l → x + p.delay ≤ b
      → IsOpenTo p r (cub_of p (t.first + 1)) (due p t.slot.0 t.first) b
      → Knows p r (cub_of p (t.first + 1)) t t.first b
  -- An instance that is cut somewhere was stopped in an earlier beat.
  pub cut : (c v b : ℕ) → Cut p r c v b → GoneBefore r v b
  -- A record that enters a view is of a visit of a tenancy that was put.
  pub held : (c n y : ℕ) (t : Tenancy) → Entered r c t n y → IsHeld r t n y
  -- A record enters no earlier than the greatest lead, a block play time and the skew before its
  -- visit is due.
  pub soon : (c n y : ℕ) (t : Tenancy)
      → Entered r c t n y → due p t.slot.0 n ≤ time_of p y + p.max_lead + p.play + p.skew
  -- When a Put finds the slot's former tenancy ended, each record of that one has entered before,
  -- and was due a beat before; else the former tenancy was stopped before.
  pub retired : (c d e n x y z : ℕ) (t u : Tenancy)
      → r.Put c t x → r.Put d u y → y ≤ x → u.slot.0 ≡ t.slot.0 → u.instance.0 ≢ t.instance.0
      → Entered r e u n z
      → ((z < x) × (due p u.slot.0 n + p.beat ≤ time_of p x)) ⊎ GoneBefore r u.instance.0 x
  -- An instance that is stopped is put, if at all, before the stop has come from the controller to
  -- the cubs.
  pub put_before : (c x z : ℕ) (t : Tenancy)
      → r.Put c t x → r.Gone t.instance.0 z → x < z + p.delay
  -- No record of an instance that is stopped enters after the stop has gone round the ring.
  pub over : (c n y z : ℕ) (t : Tenancy)
      → Entered r c t n y → r.Gone t.instance.0 z → y ≤ z + (p.cubs + 2) * p.delay
  -- A record in a view after a tick is of a tenancy that was put. If its instance was stopped, the
  -- next beat begins at most a block play time after the stop.
  pub shown : (c n b : ℕ) (t : Tenancy)
      → r.Shows c t n b
      → IsHeld r t n b
      × ((z : ℕ) → r.Gone t.instance.0 z → time_of p (b + 1) ≤ time_of p z + p.play)
  -- A start that a cub got in its first life was put, or a deschedule of it came, or each visit of
  -- its disk in the window is taken.
  pub waits : (c y b l s n : ℕ) (ask : Ask)
      → Waits p r c ask n y b → y ≤ b → r.Ticked c b l → IsFirstLife r c b
      → s < p.slots → IsInWindow p l s n
      → IsTaken p r s n b ⊎ (PutBy r ask.instance.0 b ⊎ ReachedBy r c ask.instance.0 b)

-- Whatever the facts of a run of a plan, if they meet the laws there is one schedule. The facts are
-- a list, since what happens in a run by any beat is finite.
abbrev pub RunsHaveOneSchedule : Type 0
RunsHaveOneSchedule = (p : Params) (log : List Fact)
    → IsPlan p → Laws p (facts_in log) → IsOneSchedule p (facts_in log)
