-- What is known of a run, apart from how the run is kept: who did what in which beat.
use Rattle.std.specs.Prelude.{◌≡◌, ℕ, ◌+◌, ◌*◌, ◌<◌, ◌≤◌, ◌⊎◌}
use Rattle.tiger_base.specs.declared.tenancy.Ask.{Ask}
use Rattle.tiger_base.specs.declared.tenancy.Tenancy.{Tenancy}
use Rattle.slot_plan.specs.declared.params.Params.{Params}
use Rattle.slot_plan.specs.Times.{time_of, cub_of}

-- The facts of a run. Each has its beat b, and none has a place within the beat. Cubs (a, c), slots
-- (s), disks (d) and instances (v) go by their numbers; m, n and q are visits, and l is a clock's
-- reading.
pub record Facts : Type 1 where
  -- Cub c came to its tick of beat b, and had taken all messages that came to it in that beat.
  pub Came : (c b : ℕ) → Type 0
  -- Cub c ended beat b by its tick, at reading l.
  pub Ticked : (c b l : ℕ) → Type 0
  -- Cub c put tenancy t into its slot.
  pub Put : (c : ℕ) (t : Tenancy) (b : ℕ) → Type 0
  -- A record of visit n of t entered cub c's view by a Put of its own.
  pub Inserted : (c : ℕ) (t : Tenancy) (n b : ℕ) → Type 0
  -- A record of visit n of t entered cub c's view by a viewer state that it got.
  pub Took : (c : ℕ) (t : Tenancy) (n b : ℕ) → Type 0
  -- After cub c's tick its view has a record of visit n of t.
  pub Shows : (c : ℕ) (t : Tenancy) (n b : ℕ) → Type 0
  -- Cub a sent the state of visit m of t to the k-th cub after it.
  pub Sent : (a k : ℕ) (t : Tenancy) (m b : ℕ) → Type 0
  -- Cub c got the state of visit m of t.
  pub Got : (c : ℕ) (t : Tenancy) (m b : ℕ) → Type 0
  -- The controller sent the two starts of an order.
  pub Begun : (ask : Ask) (b : ℕ) → Type 0
  -- Cub c got the plain start of an order, which goes to the cub of the first block's disk.
  pub Asked : (c : ℕ) (ask : Ask) (b : ℕ) → Type 0
  -- Cub c got the redundant start of an order, which goes to the next cub.
  pub AskedApart : (c : ℕ) (ask : Ask) (b : ℕ) → Type 0
  -- The controller stopped instance v.
  pub Gone : (v b : ℕ) → Type 0
  -- The controller stopped instance v at visit n of slot s, since it knew where the instance
  -- stands.
  pub StoppedAt : (v s n b : ℕ) → Type 0
  -- The controller stopped instance v at disk d, that of its start, since it knew of no Put.
  pub StoppedWaiting : (v d b : ℕ) → Type 0
  -- Cub a sent the k-th cub after it a deschedule of instance v, with the tag of visit q of slot s.
  pub Told : (a k v s q b : ℕ) → Type 0
  -- Cub c got a deschedule of instance v.
  pub Reached : (c v b : ℕ) → Type 0
  -- Cub c got a deschedule of instance v with the tag of visit q of slot s.
  pub GotTag : (c v s q b : ℕ) → Type 0
  -- Cub c got a deschedule of instance v without a tag.
  pub GotBare : (c v b : ℕ) → Type 0
  -- Cub c passed a deschedule of instance v on, from its own position at visit q of slot s.
  pub Passed : (c v s q b : ℕ) → Type 0
  -- Cub c died.
  pub Died : (c b : ℕ) → Type 0
  -- Cub c, which had died, came back, with an empty view. Its next life begins with this beat.
  pub Returned : (c b : ℕ) → Type 0
  -- Cub c sent its successor a heartbeat.
  pub Beat : (c b : ℕ) → Type 0
  -- Cub c got a heartbeat of its predecessor.
  pub Heard : (c b : ℕ) → Type 0
  -- Cub c began to believe its predecessor dead.
  pub Believed : (c b : ℕ) → Type 0

-- Cub c is in its first life in beat b: it has not come back by then.
abbrev pub IsFirstLife : Facts → ℕ → ℕ → Type 0
IsFirstLife r c b = (w : ℕ) → r.Returned c w → b < w

-- No cub comes back, so that each has one life.
abbrev pub NobodyReturns : Facts → Type 0
NobodyReturns r = (c w : ℕ) → ¬ r.Returned c w

-- Beats x and b are of one life of cub c: if it came back by beat b, then by beat x.
abbrev pub IsSameLife : Facts → ℕ → ℕ → ℕ → Type 0
IsSameLife r c x b = (w : ℕ) → r.Returned c w → w ≤ b → w ≤ x

-- A cub that came back at this reading lets in what is due, or leaves, from this time on.
abbrev pub enters_from : Params → ℕ → ℕ
enters_from p reading = reading + p.max_lead + 3 * p.play + p.skew

-- Cub c lets in, in beat b, what is due at this time, whatever its clock read when it came back.
abbrev pub IsOpenTo : Params → Facts → ℕ → ℕ → ℕ → Type 0
IsOpenTo p r c at b = (w : ℕ)
    → r.Returned c w → w ≤ b → enters_from p (time_of p w) + p.skew ≤ at

-- The last return of cub c by beat b.
pub record LastReturn (r : Facts) (c b : ℕ) : Type 0 where
  pub beat : ℕ
  pub returned : r.Returned c beat
  pub by : beat ≤ b
  pub last : (w : ℕ) → r.Returned c w → w ≤ b → w ≤ beat

-- Cub c ended beat b.
pub record Ended (r : Facts) (c b : ℕ) : Type 0 where
  pub reading : ℕ
  pub ticked : r.Ticked c b reading

-- Cub c ended beat b in its first life.
pub record LivedTo (r : Facts) (c b : ℕ) : Type 0 where
  pub reading : ℕ
  pub ticked : r.Ticked c b reading
  pub first : IsFirstLife r c b

-- Instance v was put in beat b or before it.
pub record PutBy (r : Facts) (v b : ℕ) : Type 0 where
  pub cub : ℕ
  pub tenancy : Tenancy
  pub same : tenancy.instance.0 ≡ v
  pub beat : ℕ
  pub put : r.Put cub tenancy beat
  pub by : beat ≤ b

-- Cub c got the state of visit m of t in beat b or before it.
pub record GotBy (r : Facts) (c : ℕ) (t : Tenancy) (m b : ℕ) : Type 0 where
  pub beat : ℕ
  pub got : r.Got c t m beat
  pub by : beat ≤ b

-- A deschedule of instance v reached cub c in beat b or before it.
pub record ReachedBy (r : Facts) (c v b : ℕ) : Type 0 where
  pub beat : ℕ
  pub reached : r.Reached c v beat
  pub by : beat ≤ b

-- Cub c got a deschedule of instance v with the tag of visit q of slot s in beat b or before it.
pub record GotTagBy (r : Facts) (c v s q b : ℕ) : Type 0 where
  pub beat : ℕ
  pub got : r.GotTag c v s q beat
  pub by : beat ≤ b

-- Cub c got a deschedule of instance v without a tag in beat b or before it.
pub record GotBareBy (r : Facts) (c v b : ℕ) : Type 0 where
  pub beat : ℕ
  pub got : r.GotBare c v beat
  pub by : beat ≤ b

-- Cub c passed a deschedule of instance v on in beat b or before it, from whatever position.
pub record PassedBy (r : Facts) (c v b : ℕ) : Type 0 where
  pub slot : ℕ
  pub visit : ℕ
  pub beat : ℕ
  pub passed : r.Passed c v slot visit beat
  pub by : beat ≤ b

-- Cub c died in beat b or before it.
pub record DiedBy (r : Facts) (c b : ℕ) : Type 0 where
  pub beat : ℕ
  pub died : r.Died c beat
  pub by : beat ≤ b

-- Cub c began to believe its predecessor dead in beat b or before it.
pub record BelievedBy (r : Facts) (c b : ℕ) : Type 0 where
  pub beat : ℕ
  pub believed : r.Believed c beat
  pub by : beat ≤ b

-- Instance v was stopped in a lower beat than b.
pub record GoneBefore (r : Facts) (v b : ℕ) : Type 0 where
  pub beat : ℕ
  pub gone : r.Gone v beat
  pub before : beat < b

-- Instance v was stopped a block play time before beat b.
pub record Late (p : Params) (r : Facts) (v b : ℕ) : Type 0 where
  pub beat : ℕ
  pub gone : r.Gone v beat
  pub late : time_of p beat + p.play ≤ time_of p b

-- A hold of instance v at cub c was over by beat b: its deschedule came two block play times
-- before.
pub record IsReleasedBy (p : Params) (r : Facts) (c v b : ℕ) : Type 0 where
  pub beat : ℕ
  pub reached : r.Reached c v beat
  pub over : time_of p beat + 2 * p.play ≤ time_of p b

-- Cub c holds instance v no longer in beat y, in which a record or a start of it comes: whatever
-- deschedule reached the cub by beat b in that beat's life, its hold was over then.
abbrev pub IsUnheld : Params → Facts → ℕ → ℕ → ℕ → ℕ → Type 0
IsUnheld p r c v b y = (x : ℕ)
    → r.Reached c v x → x ≤ b → IsSameLife r c x b → IsReleasedBy p r c v y

-- Cub c died so long before beat b that whatever it sent has been got by then.
pub record DiedLongBefore (p : Params) (r : Facts) (c b : ℕ) : Type 0 where
  pub until : ℕ
  pub died : DiedBy r c until
  pub long : until + p.delay + 2 ≤ b

-- Instance v is cut at cub c: a deschedule of it came there by beat b, or it was stopped a block
-- play time before. Such a cub need not have its records; this is the one word by which stops enter
-- what is proved of records.
abbrev pub Cut : Params → Facts → ℕ → ℕ → ℕ → Type 0
Cut p r c v b = ReachedBy r c v b ⊎ Late p r v b

-- A record of visit n of t entered cub c's view in beat b.
abbrev pub Entered : Facts → ℕ → Tenancy → ℕ → ℕ → Type 0
Entered r c t n b = r.Took c t n b ⊎ r.Inserted c t n b

-- A record of visit n of t entered cub c's view in beat b or before it, in the same life.
pub record EnteredBy (r : Facts) (c : ℕ) (t : Tenancy) (n b : ℕ) : Type 0 where
  pub beat : ℕ
  pub entered : Entered r c t n beat
  pub by : beat ≤ b
  pub life : IsSameLife r c beat b

-- A record entered in beat b, so early that a message of beat y finds it: a cub takes its messages
-- before it puts.
abbrev pub EnteredAmong : Facts → ℕ → Tenancy → ℕ → ℕ → ℕ → Type 0
EnteredAmong r c t n b y = (r.Took c t n b × (b ≤ y)) ⊎ (r.Inserted c t n b × (b < y))

-- Cub c has had a record of visit n of t by beat b, unless the instance is cut there.
abbrev pub Knows : Params → Facts → ℕ → Tenancy → ℕ → ℕ → Type 0
Knows p r c t n b = EnteredBy r c t n b ⊎ Cut p r c t.instance.0 b

-- Of a cub that got a state, more: if the instance is cut since a deschedule came, the cub has
-- passed that on.
abbrev pub Takes : Params → Facts → ℕ → Tenancy → ℕ → ℕ → Type 0
Takes p r c t n b = EnteredBy r c t n b ⊎ (PassedBy r c t.instance.0 b ⊎ Late p r t.instance.0 b)

-- Cub c is the cub of visit m, or the one after it.
abbrev pub IsBeside : Params → ℕ → ℕ → Type 0
IsBeside p c m = (c ≡ cub_of p m) ⊎ (c ≡ cub_of p (m + 1))

-- The state of visit m of t gives cub c a record of visit n, and so does a Put at visit m: one of
-- visit m itself, as own or as backup record, and with a backup record the own record of the next
-- visit.
abbrev pub IsGiven : Params → ℕ → Tenancy → ℕ → ℕ → Type 0
IsGiven p c t m n = ((n ≡ m) × IsBeside p c m) ⊎ ((n ≡ m + 1) × (n ≤ t.last) × (c ≡ cub_of p n))

-- A tenancy is what was asked: the instance, a visit for each block, and the first one on the
-- file's disk.
pub record IsFor (disk_of : ℕ → ℕ) (ask : Ask) (t : Tenancy) : Type 0 where
  pub instance : ask.instance ≡ t.instance
  pub file : ask.file ≡ t.file
  pub count : t.first + ask.count ≡ t.last + 1
  pub disk : ask.disk.0 ≡ disk_of t.first
