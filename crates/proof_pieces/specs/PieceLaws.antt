-- What a cub's rules on mirror pieces and the links give of them.
use Rattle.std.specs.Prelude.{◌≡◌, ℕ, ◌+◌, ◌<◌, ◌≤◌, ◌⊎◌}
use Rattle.tiger_base.specs.declared.tenancy.Tenancy.{Tenancy}
use Rattle.slot_plan.specs.declared.params.Params.{Params}
use Rattle.slot_plan.specs.Times.{time_of, due, cub_of}
use Rattle.proof_schedule.specs.Facts.{Facts, BelievedBy, IsUnheld, Entered, IsSameLife, enters_from}
use Rattle.proof_schedule.specs.RunLaws.{IsTick}
use Rattle.proof_pieces.specs.PieceFacts.{PieceFacts, leave, Arises, AsksBy, Uses}

-- A visit is split by the cub after its own, which believes that one dead and has the visit's
-- backup record, which entered when its instance was not held. It is split early: its pieces can
-- still be read and leave in time.
pub record IsSplit (p : Params) (r : Facts) (c : ℕ) (t : Tenancy) (n b : ℕ) : Type 0 where
  pub reading : ℕ
  pub tick : IsTick p r c b reading
  pub next : c ≡ cub_of p (n + 1)
  pub believed : BelievedBy r c b
  pub beat : ℕ
  pub entered : Entered r c t n beat
  pub by : beat ≤ b
  pub since : IsUnheld p r c t.instance.0 b beat
  pub soon : reading + p.read_lead + p.skew + time_of p p.delay + p.beat ≤ due p t.slot.0 n

-- A visit is split by its own cub, which has the visit's own record, that entered when its instance
-- was not held, and splits it as early. Only in a run in which no cub dies is that ever so.
pub record IsSpared (p : Params) (r : Facts) (c : ℕ) (t : Tenancy) (n b : ℕ) : Type 0 where
  pub reading : ℕ
  pub tick : IsTick p r c b reading
  pub own : c ≡ cub_of p n
  pub beat : ℕ
  pub entered : Entered r c t n beat
  pub by : beat ≤ b
  pub since : IsUnheld p r c t.instance.0 b beat
  pub soon : reading + p.read_lead + p.skew + time_of p p.delay + p.beat ≤ due p t.slot.0 n
  pub calm : (d x : ℕ) → ¬ r.Died d x

-- The mirror state of piece j goes out at a split, to the cub that stands j - 1 after the one that
-- splits.
pub record IsMirror (p : Params) (q : PieceFacts) (a k : ℕ) (t : Tenancy) (n j b : ℕ) : Type 0 where
  pub split : q.Split a t n b
  pub piece : j ≡ k + 1
  pub some : 1 ≤ k

-- It goes out at a split of a visit of its own, to the cub that stands j after that.
pub record IsSpareMirror (q : PieceFacts) (a k : ℕ) (t : Tenancy) (n j b : ℕ) : Type 0 where
  pub spared : q.Spared a t n b
  pub piece : j ≡ k
  pub some : 1 ≤ k

-- A mirror state that cub c got in beat y was sent to it: at least one beat before, and at most the
-- greatest delay.
pub record WasMirrored (p : Params) (q : PieceFacts) (c : ℕ) (t : Tenancy)
    (n j y : ℕ) : Type 0 where
  pub from : ℕ
  pub ahead : ℕ
  pub beat : ℕ
  pub sent : q.MirrorSent from ahead t n j beat
  pub to : c ≡ cub_of p (from + ahead)
  pub later : beat < y
  pub soon : y ≤ beat + p.delay

-- At the tick of the beat before b a time was not yet within the lead.
pub record WasUndue (p : Params) (r : Facts) (c b time lead : ℕ) : Type 0 where
  pub beat : ℕ
  pub reading : ℕ
  pub ticked : r.Ticked c beat reading
  pub next : b ≡ beat + 1
  pub undue : reading + lead < time

-- At a tick of beat b cub c uses piece j by a record that entered in that life, when its instance
-- was not held.
-- The cub is the j-th after the visit's. The piece leaves within the lead, and at the tick before
-- it did not, unless the record entered in this beat. If the cub did not end the beat, it died in
-- that tick.
pub record IsThere (p : Params) (r : Facts) (q : PieceFacts) (c : ℕ) (t : Tenancy)
    (n j b lead : ℕ) : Type 0 where
  pub reading : ℕ
  pub tick : IsTick p r c b reading
  pub whole : r.Ticked c b reading ⊎ r.Died c b
  pub here : c ≡ cub_of p (n + j)
  pub few : j ≤ p.pieces
  pub beat : ℕ
  pub arises : Arises r q c t n j beat
  pub by : beat ≤ b
  pub life : IsSameLife r c beat b
  pub since : IsUnheld p r c t.instance.0 b beat
  pub soon : leave p t n j ≤ reading + lead
  pub fresh : (beat ≡ b) ⊎ WasUndue p r c b (leave p t n j) lead

-- A part that is sent was asked for. A disk's answer does not name the tenancy's last visit: so as
-- far as one cub can tell, it was asked for by a tenancy of the same instance.
pub record WasAsked (q : PieceFacts) (c : ℕ) (t : Tenancy) (n j b : ℕ) : Type 0 where
  pub tenancy : Tenancy
  pub same : tenancy.instance.0 ≡ t.instance.0
  pub asked : AsksBy q c tenancy n j b

-- Cub a, which was reached by a deschedule between two beats, told the cubs of all pieces of visit
-- n to drop them.
pub record IsKilled (p : Params) (r : Facts) (q : PieceFacts) (a : ℕ) (t : Tenancy)
    (n from until : ℕ) : Type 0 where
  pub beat : ℕ
  pub reached : r.Reached a t.instance.0 beat
  pub after : from < beat
  pub by : beat ≤ until
  pub kills : (k : ℕ) → 1 ≤ k → k < p.pieces → q.KillSent a k t.instance.0 t.slot.0 n beat

-- Cub a told, between two beats, the cubs of all pieces of visit n of its own to drop them.
pub record IsSpareKilled (p : Params) (r : Facts) (q : PieceFacts) (a : ℕ) (t : Tenancy)
    (n from until : ℕ) : Type 0 where
  pub beat : ℕ
  pub reached : r.Reached a t.instance.0 beat
  pub after : from < beat
  pub by : beat ≤ until
  pub kills : (k : ℕ) → 1 ≤ k → k ≤ p.pieces → q.KillSent a k t.instance.0 t.slot.0 n beat

-- Cub a had forgotten the split of visit n before a beat, since the next visit was due at a tick.
pub record IsForgotten (p : Params) (r : Facts) (a : ℕ) (t : Tenancy) (n until : ℕ) : Type 0 where
  pub beat : ℕ
  pub reading : ℕ
  pub ticked : r.Ticked a beat reading
  pub before : beat < until
  pub past : due p t.slot.0 n + p.play ≤ reading

-- Cub a sent the mirror state of piece j in beat y or after it.
pub record MirrorSince (q : PieceFacts) (a k : ℕ) (t : Tenancy) (n j y : ℕ) : Type 0 where
  pub beat : ℕ
  pub sent : q.MirrorSent a k t n j beat
  pub after : y ≤ beat

-- The laws of mirror pieces: of one cub, of its clock, or of one link.
pub record PieceLaws (p : Params) (r : Facts) (q : PieceFacts) : Type 0 where
  -- Splitting: who splits a visit, and when.
  pub splits : {c : ℕ} {t : Tenancy} {n b : ℕ} → q.Split c t n b → IsSplit p r c t n b
  -- Splitting: who splits a visit of its own, and when.
  pub spares : {c : ℕ} {t : Tenancy} {n b : ℕ} → q.Spared c t n b → IsSpared p r c t n b
  -- Splitting: a mirror state goes out only at a split of either kind.
  pub mirrors : {a k : ℕ} {t : Tenancy} {n j b : ℕ}
      → q.MirrorSent a k t n j b → IsMirror p q a k t n j b ⊎ IsSpareMirror q a k t n j b
  -- Link: a mirror state that was got was sent.
  pub mirrored : {c : ℕ} {t : Tenancy} {n j y : ℕ}
      → q.Mirrored c t n j y → WasMirrored p q c t n j y
  -- Mirror state: what enters a cub that has come back leaves late enough after its return.
  pub late : {c : ℕ} {t : Tenancy} {n j y w : ℕ}
      → q.Mirrored c t n j y → r.Returned c w → w ≤ y → enters_from p (time_of p w) ≤ leave p t n j
  -- Reading: a disk is asked for a piece when that leaves within the read lead.
  pub asks : {c : ℕ} {t : Tenancy} {n j b : ℕ}
      → q.Asks c t n j b → IsThere p r q c t n j b p.read_lead
  -- Serving: a piece is sent when it leaves.
  pub serves : {c : ℕ} {t : Tenancy} {n j b : ℕ} → q.Serves c t n j b → IsThere p r q c t n j b 0
  -- Serving: a piece that is sent was asked for.
  pub asked : {c : ℕ} {t : Tenancy} {n j b : ℕ} → q.Serves c t n j b → WasAsked q c t n j b
  -- Clock: the readings of a cub never fall.
  pub rising : {c a b l m : ℕ} → r.Ticked c a l → r.Ticked c b m → a ≤ b → l ≤ m
  -- Deschedule: at a deschedule a cub kills what it split in a lower beat of that life, unless it
  -- has forgotten that, or dies in that beat.
  pub kills : {a : ℕ} {t : Tenancy} {n x y b : ℕ}
      → q.Split a t n x → r.Reached a t.instance.0 y → x < y → r.Came a b → y ≤ b
      → IsSameLife r a x b
      → IsKilled p r q a t n x y ⊎ IsForgotten p r a t n y
  -- Deschedule: so it kills what it split of its own.
  pub spare_kills : {a : ℕ} {t : Tenancy} {n x y : ℕ}
      → q.Spared a t n x → r.Reached a t.instance.0 y → x < y
      → IsSpareKilled p r q a t n x y ⊎ IsForgotten p r a t n y
  -- And a piece of it that is used when the kill must have come was sent behind that.
  pub spare_killed : {a k c : ℕ} {t : Tenancy} {n x y b : ℕ}
      → q.Spared a t n x → q.KillSent a k t.instance.0 t.slot.0 n y → c ≡ cub_of p (a + k)
      → Uses q c t n k b → y + p.delay ≤ b
      → MirrorSince q a k t n k y
  -- Kill, and order on the link: a piece of a split that is used when a kill must have come was sent
  -- behind it.
  pub killed : {a k c : ℕ} {t : Tenancy} {n j x y b : ℕ}
      → q.Split a t n x → q.KillSent a k t.instance.0 t.slot.0 n y → c ≡ cub_of p (a + k)
      → j ≡ k + 1 → Uses q c t n j b → y + p.delay ≤ b
      → MirrorSince q a k t n j y
