-- The invariant, as statements about one beat; and all that holds of a run, in one value.
use Rattle.std.specs.Prelude.{◌≡◌, ◌≢◌, ℕ, ◌+◌, ◌*◌, ◌<◌, ◌≤◌, ◌⊎◌}
use Rattle.tiger_base.specs.declared.tenancy.Tenancy.{Tenancy}
use Rattle.slot_plan.specs.declared.params.Params.{Params}
use Rattle.slot_plan.specs.Conditions.{IsPlan}
use Rattle.slot_plan.specs.Times.{time_of, due, cub_of}
use Rattle.proof_schedule.specs.Facts.{Facts, Cut, GoneBefore, Knows, Takes, IsGiven, IsFirstLife, IsOpenTo}
use Rattle.proof_schedule.specs.StateLaws.{PutsForDead, Sends}
use Rattle.proof_schedule.specs.Laws.{Laws}
use Rattle.proof_schedule.specs.Schedule.{MayOpen}
use Rattle.proof_schedule.proofs.Room.{Room, StopRoom}

-- Visit n may be in a window from beat b on, and either not in the beat before or b is beat 0.
pub record IsOpening (p : Params) (t : Tenancy) (n b : ℕ) : Type 0 where
  pub opens : MayOpen p t n b
  pub only_now : time_of p b + p.window_a + p.skew < due p t.slot.0 n + p.beat

-- The four parts of the invariant: no conflict, once, free and sent.
module _ (p : Params) (r : Facts) where
  -- There is no conflict: each record that a state of beat b gives, and that the cub lets in, has
  -- entered by then; or its instance is cut, and if a deschedule came the cub has passed it on.
  abbrev pub NoConflictAt : ℕ → Type 0
  NoConflictAt b = (c m n : ℕ) (t : Tenancy)
      → r.Got c t m b → IsGiven p c t m n → IsOpenTo p r c (due p t.slot.0 n) b
      → Takes p r c t n b

  -- An instance that is put in beat b was not put before.
  abbrev pub OnceAt : ℕ → Type 0
  OnceAt b = (c d y : ℕ) (t u : Tenancy)
      → y ≤ b → r.Put c t b → r.Put d u y → u.instance.0 ≡ t.instance.0
      → (d ≡ c) × (u ≡ t) × (y ≡ b)

  -- A Put of beat b finds its slot free: whoever was put there by then has ended, or was stopped
  -- before and is cut at the cub that puts.
  abbrev pub FreeAt : ℕ → Type 0
  FreeAt b = (c d y : ℕ) (t u : Tenancy)
      → y ≤ b → r.Put c t b → r.Put d u y → u.slot.0 ≡ t.slot.0 → u.instance.0 ≢ t.instance.0
      → (u.last < t.first) ⊎ (GoneBefore r u.instance.0 b × Cut p r c u.instance.0 b)

  -- In its first life the cub of a visit that may be in a window in beat b has sent the next
  -- visit's state by the end of that beat, or the instance is cut there.
  abbrev pub SentAt : ℕ → Type 0
  SentAt b = (c x l n : ℕ) (t : Tenancy)
      → r.Put c t x → t.first < n → n < t.last → MayOpen p t n b → r.Ticked (cub_of p n) b l
      → IsFirstLife r (cub_of p n) b
      → Sends r (cub_of p n) t (n + 1) b ⊎ Cut p r (cub_of p n) t.instance.0 b

-- What follows from there being no conflict in the beats below.
module _ (p : Params) (r : Facts) where
  -- An instance that is stopped at a disk in beat b was put, if at all, less than two longest ways
  -- before: else the controller would know of the Put, from the cub that put or from the next one.
  abbrev pub EarlyAt : ℕ → Type 0
  EarlyAt b = (c d x : ℕ) (t : Tenancy)
      → r.StoppedWaiting t.instance.0 d b → r.Put c t x → b < x + 2 * p.delay

-- What follows from these in the beat itself, on the way to its own Puts and states.
module _ (p : Params) (r : Facts) where
  -- The cub of a visit that may be in a window in beat b knows it when it comes to its tick, if it
  -- lets it in.
  abbrev pub KeptAt : ℕ → Type 0
  KeptAt b = (c x n : ℕ) (t : Tenancy)
      → r.Put c t x → t.first < n → n ≤ t.last → MayOpen p t n b → r.Came (cub_of p n) b
      → IsOpenTo p r (cub_of p n) (due p t.slot.0 n) b
      → Knows p r (cub_of p n) t n b

  -- If the cub of such a visit dies, in whatever beat, the next cub knows what the visit's state
  -- gives it.
  abbrev pub BesideAt : ℕ → Type 0
  BesideAt b = (c x e n k : ℕ) (t : Tenancy)
      → r.Put c t x → t.first < n → n ≤ t.last → MayOpen p t n b → r.Died (cub_of p n) e
      → r.Came (cub_of p (n + 1)) b → IsGiven p (cub_of p (n + 1)) t n k
      → Knows p r (cub_of p (n + 1)) t k b

  -- A cub that puts in beat b knows each tenancy that has the visit at which it puts.
  abbrev pub KnownAt : ℕ → Type 0
  KnownAt b = (c d y : ℕ) (t u : Tenancy)
      → y ≤ b → r.Put c t b → r.Put d u y
      → u.slot.0 ≡ t.slot.0 → u.first ≤ t.first → t.first ≤ u.last
      → Knows p r c u t.first b

  -- Cub c, if it has come back by beat b, did so a block play time before.
  abbrev pub IsLongBack : ℕ → ℕ → Type 0
  IsLongBack c b = (w : ℕ) → r.Returned c w → w ≤ b → time_of p w + p.play ≤ time_of p b

  -- An instance that is cut at the cub of a visit, in its first life, in the beat in which that
  -- opens is cut at the next two cubs (k is 1 or 2) when the next visit may open, unless these came
  -- back a short time ago.
  abbrev pub CutOn : ℕ → Type 0
  CutOn b = (c x y l k q n : ℕ) (t : Tenancy)
      → r.Put c t x → t.first < n → n < t.last
      → y + p.delay < b → IsOpening p t n y → MayOpen p t (n + 1) b
      → r.Ticked (cub_of p n) y l → IsFirstLife r (cub_of p n) y
      → Cut p r (cub_of p n) t.instance.0 y
      → q ≡ n + k → (k ≡ 1) ⊎ (k ≡ 2)
      → r.Came (cub_of p q) b → IsLongBack (cub_of p q) b
      → Cut p r (cub_of p q) t.instance.0 b

  -- A cub that put at a visit of its dead predecessor knows the next visit, which is its own.
  abbrev pub TakenOver : ℕ → Type 0
  TakenOver b = (c x : ℕ) (t : Tenancy)
      → r.Put c t x → PutsForDead p r c t x → t.first < t.last → x < b
      → Knows p r c t (t.first + 1) b

-- A run of a plan that meets the laws, and meets the invariant in every beat. That there is no
-- conflict is known of each beat below one to whose tick some cub came.
pub record Setting (p : Params) (r : Facts) : Type 0 where
  pub ok : IsPlan p
  pub room : Room p
  pub turn : StopRoom p
  pub law : Laws p r
  pub once : (b : ℕ) → OnceAt p r b
  pub free : (b : ℕ) → FreeAt p r b
  pub sent : (b : ℕ) → SentAt p r b
  pub clean : (c b y : ℕ) → r.Came c b → y < b → NoConflictAt p r y
  pub early : (b : ℕ) → EarlyAt p r b
