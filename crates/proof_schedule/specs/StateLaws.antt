-- What a cub's rules on records give: which enter its view, and which states it sends.
use Rattle.std.specs.Prelude.{◌≡◌, ℕ, ◌+◌, ◌<◌, ◌≤◌, ◌⊎◌}
use Rattle.tiger_base.specs.declared.tenancy.Tenancy.{Tenancy}
use Rattle.slot_plan.specs.declared.params.Params.{Params}
use Rattle.slot_plan.specs.Times.{time_of, due, cub_of}
use Rattle.proof_schedule.specs.Facts.{Facts, GotTagBy, PassedBy, ReachedBy, BelievedBy, IsReleasedBy, IsUnheld, Entered, EnteredAmong, IsGiven, IsFirstLife, IsSameLife, IsOpenTo, enters_from}
use Rattle.proof_schedule.specs.RunLaws.{IsTick}

-- Cub c puts at a visit of its own, and sends the visit's state to its successor.
pub record PutsOwn (p : Params) (r : Facts) (c : ℕ) (t : Tenancy) (x : ℕ) : Type 0 where
  pub own : c ≡ cub_of p t.first
  pub sent : r.Sent c 1 t t.first x

-- At cub c's tick of beat b a record of visit n of slot s is in its view. It entered in that life,
-- when its instance was not held.
pub record Stands (p : Params) (r : Facts) (c s n b : ℕ) : Type 0 where
  pub holder : Tenancy
  pub slot : holder.slot.0 ≡ s
  pub beat : ℕ
  pub entered : Entered r c holder n beat
  pub by : beat ≤ b
  pub since : IsUnheld p r c holder.instance.0 b beat
  pub life : IsSameLife r c beat b

-- Cub c puts at a visit of its predecessor, which it believes dead. If the tenancy has a next
-- visit, which is the cub's own, it inserts a record of that too, or finds one there.
pub record PutsForDead (p : Params) (r : Facts) (c : ℕ) (t : Tenancy) (x : ℕ) : Type 0 where
  pub next : c ≡ cub_of p (t.first + 1)
  pub believed : BelievedBy r c x
  pub second : t.first < t.last
      → r.Inserted c t (t.first + 1) x ⊎ Stands p r c t.slot.0 (t.first + 1) x

-- A Put of beat x is in a tick of a first life, at a first visit in the window, and its record
-- enters the view. If the cub did not end the beat, it died in that tick.
pub record Inserts (p : Params) (r : Facts) (c : ℕ) (t : Tenancy) (x : ℕ) : Type 0 where
  pub reading : ℕ
  pub tick : IsTick p r c x reading
  pub whole : r.Ticked c x reading ⊎ r.Died c x
  pub above : reading + p.window_b < due p t.slot.0 t.first
  pub below : due p t.slot.0 t.first ≤ reading + p.window_a
  pub within : t.first ≤ t.last
  pub entered : r.Inserted c t t.first x
  pub first : IsFirstLife r c x
  pub who : PutsOwn p r c t x ⊎ PutsForDead p r c t x

-- A record of visit n that entered by a state is one that this state gives, and the state came in
-- the same beat.
pub record Taken (p : Params) (r : Facts) (c : ℕ) (t : Tenancy) (n y : ℕ) : Type 0 where
  pub visit : ℕ
  pub got : r.Got c t visit y
  pub given : IsGiven p c t visit n

-- At the tick of the beat before x it was too early to forward the state of visit m.
pub record WasEarly (p : Params) (r : Facts) (a : ℕ) (t : Tenancy) (m x : ℕ) : Type 0 where
  pub beat : ℕ
  pub reading : ℕ
  pub ticked : r.Ticked a beat reading
  pub next : x ≡ beat + 1
  pub early : reading + p.min_lead < due p t.slot.0 m

-- Cub a forwards the state of visit m in a tick of beat x, from its own record of the visit before.
-- That record entered in this beat, or at the tick before it was too early; and it entered in that
-- life, when its instance was not held.
pub record Forwards (p : Params) (r : Facts) (a : ℕ) (t : Tenancy) (m x : ℕ) : Type 0 where
  pub visit : ℕ
  pub next : m ≡ visit + 1
  pub more : visit < t.last
  pub own : a ≡ cub_of p visit
  pub beat : ℕ
  pub entered : Entered r a t visit beat
  pub by : beat ≤ x
  pub reading : ℕ
  pub tick : IsTick p r a x reading
  pub soon : due p t.slot.0 m ≤ reading + p.max_lead
  pub fresh : (beat ≡ x) ⊎ WasEarly p r a t m x
  pub since : IsUnheld p r a t.instance.0 x beat
  pub life : IsSameLife r a beat x

-- Cub a sends the state of a first visit at its own Put there, to the next cub.
pub record SendsFirst (p : Params) (r : Facts) (a k : ℕ) (t : Tenancy) (m x : ℕ) : Type 0 where
  pub put : r.Put a t x
  pub first : m ≡ t.first
  pub near : k ≡ 1
  pub own : a ≡ cub_of p t.first

-- Cub a has sent the state of visit m to the next two cubs by beat b.
pub record Sends (r : Facts) (a : ℕ) (t : Tenancy) (m b : ℕ) : Type 0 where
  pub beat : ℕ
  pub near : r.Sent a 1 t m beat
  pub far : r.Sent a 2 t m beat
  pub by : beat ≤ b

-- A state that cub c got in beat y found a record of the same life in a place that it gives. If a
-- deschedule of that record's instance came in that life before the state, ahead of it on its link
-- or in a lower beat, then the record entered after the hold.
pub record Found (p : Params) (r : Facts) (c s n y from ahead sent : ℕ) : Type 0 where
  pub holder : Tenancy
  pub slot : holder.slot.0 ≡ s
  pub beat : ℕ
  pub entered : EnteredAmong r c holder n beat y
  pub behind : (u q x : ℕ) → r.Told from ahead holder.instance.0 u q x → x ≤ sent
      → IsSameLife r c x y → IsReleasedBy p r c holder.instance.0 beat
  pub since : (b : ℕ) → r.Reached c holder.instance.0 b → b < y
      → IsSameLife r c b y → IsReleasedBy p r c holder.instance.0 beat
  pub life : IsSameLife r c beat y

-- A state that cub c got in beat y was sent, and each deschedule that went ahead of it on its link
-- had come, unless the cub was away. In each place that it gives, and that the cub lets in, there
-- is a record now, perhaps its own; or its instance is held, and cub c has passed the deschedule
-- on.
pub record Meeting (p : Params) (r : Facts) (c : ℕ) (t : Tenancy) (m y : ℕ) : Type 0 where
  pub from : ℕ
  pub ahead : ℕ
  pub beat : ℕ
  pub sent : r.Sent from ahead t m beat
  pub to : c ≡ cub_of p (from + ahead)
  pub later : beat < y
  pub soon : y ≤ beat + p.delay
  pub tags : (v s q x : ℕ)
      → r.Told from ahead v s q x → x ≤ beat → IsSameLife r c x y → GotTagBy r c v s q y
  pub places : (n : ℕ) → IsGiven p c t m n → IsOpenTo p r c (due p t.slot.0 n) y
      → Found p r c t.slot.0 n y from ahead beat ⊎ PassedBy r c t.instance.0 y

-- A record that a view has after a tick was not due at it, and entered in that life, when its
-- instance was not held.
pub record IsShown (p : Params) (r : Facts) (c : ℕ) (t : Tenancy) (n b : ℕ) : Type 0 where
  pub reading : ℕ
  pub ticked : r.Ticked c b reading
  pub undue : reading < due p t.slot.0 n
  pub beat : ℕ
  pub entered : Entered r c t n beat
  pub by : beat ≤ b
  pub since : IsUnheld p r c t.instance.0 b beat
  pub life : IsSameLife r c beat b

-- The laws of records and states, each of one cub, of which r tells. What was sent to it, and is told
-- by `among`, was sent by another.
pub record StateLawsAmong (p : Params) (r among : Facts) : Type 0 where
  -- Insertion: a Put is in a tick, in the window, at a visit of the cub's own or of its dead
  -- predecessor.
  pub inserts : {c : ℕ} {t : Tenancy} {x : ℕ} → r.Put c t x → Inserts p r c t x
  -- Insertion: a record is inserted by a Put, which gives it.
  pub inserted : {c : ℕ} {t : Tenancy} {n x : ℕ}
      → r.Inserted c t n x → r.Put c t x × IsGiven p c t t.first n
  -- Insertion: the visit of a Put is free. So if a record of it came before, that is of the same
  -- instance, or a deschedule of its instance reached the cub.
  pub free : {c : ℕ} {t u : Tenancy} {x y : ℕ}
      → r.Put c t x → Entered r c u t.first y → y ≤ x → u.slot.0 ≡ t.slot.0
      → (u.instance.0 ≡ t.instance.0) ⊎ ReachedBy r c u.instance.0 x
  -- Viewer state: a record that is taken is one that a state of this beat gives.
  pub taken : {c : ℕ} {t : Tenancy} {n y : ℕ} → r.Took c t n y → Taken p r c t n y
  -- Viewer state: a state of one of its tenancy's visits finds each place that it gives taken, or
  -- takes it.
  pub meets : {c m y : ℕ} {t : Tenancy}
      → r.Got c t m y → t.first ≤ m → m ≤ t.last → Meeting p among c t m y
  -- Viewer state: what enters a cub that has come back is due late enough after its return.
  pub late : {c n y w : ℕ} {t : Tenancy}
      → r.Took c t n y → r.Returned c w → w ≤ y → enters_from p (time_of p w) ≤ due p t.slot.0 n
  -- Insertion and forwarding: a state goes out at a Put, or by an own record.
  pub sends : {a k : ℕ} {t : Tenancy} {m x : ℕ}
      → r.Sent a k t m x → SendsFirst p r a k t m x ⊎ Forwards p r a t m x
  -- Insertion and forwarding: a state goes to one of the next two cubs.
  pub ahead : {a k m x : ℕ} {t : Tenancy} → r.Sent a k t m x → (k ≡ 1) ⊎ (k ≡ 2)
  -- Forwarding: from an own record that is not yet due the next state has gone out, if that is due
  -- within the least lead, unless a deschedule came. Nobody relies on a cub that has come back.
  pub forwards : {a : ℕ} {t : Tenancy} {n y b l : ℕ}
      → Entered r a t n y → y ≤ b → r.Ticked a b l → IsFirstLife r a b → a ≡ cub_of p n → n < t.last
      → l < due p t.slot.0 n → due p t.slot.0 (n + 1) ≤ l + p.min_lead
      → Sends r a t (n + 1) b ⊎ ReachedBy r a t.instance.0 b
  -- Releasing: a tick leaves no record that is due, and a deschedule leaves none of its instance.
  pub shows : {c n b : ℕ} {t : Tenancy} → r.Shows c t n b → IsShown p r c t n b

-- The same, if one telling has all.
abbrev pub StateLaws : Params → Facts → Type 0
StateLaws p r = StateLawsAmong p r r
