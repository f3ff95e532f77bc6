-- What a cub's rules on belief, splitting, reading and serving, the disks and the links give of blocks.
use Rattle.std.specs.Prelude.{◌≡◌, ℕ, ◌+◌, ◌*◌, ◌<◌, ◌≤◌, ◌⊎◌}
use Rattle.tiger_base.specs.declared.tenancy.Tenancy.{Tenancy}
use Rattle.slot_plan.specs.declared.params.Params.{Params}
use Rattle.slot_plan.specs.Times.{time_of, due, cub_of}
use Rattle.proof_schedule.specs.Facts.{Facts, Ended, LivedTo, DiedBy, ReachedBy, BelievedBy, EnteredBy, IsFirstLife, IsSameLife}
use Rattle.proof_pieces.specs.PieceFacts.{PieceFacts, leave}
use Rattle.proof_pieces.specs.PieceLaws.{WasUndue}
use Rattle.proof_service.specs.ServiceFacts.{ServiceFacts, SplitBy, ArisesBy, AsksInLife, IsCutOff, LetsIn, MayServe, IsLeftTo, serves_from}

-- Cub c heard its predecessor by beat b, and at a reading that was at most the deadman time ago, as
-- far as its clock can tell.
pub record HeardTill (p : Params) (r : Facts) (c b reading : ℕ) : Type 0 where
  pub beat : ℕ
  pub heard : r.Heard c beat
  pub by : beat ≤ b
  pub till : reading ≤ time_of p beat + p.skew + p.deadman

-- Cub d came to a tick of its first life at least one beat before beat y, and at most the greatest
-- delay.
pub record WasUp (p : Params) (r : Facts) (d y : ℕ) : Type 0 where
  pub beat : ℕ
  pub came : r.Came d beat
  pub first : IsFirstLife r d beat
  pub before : beat < y
  pub soon : y ≤ beat + p.delay

-- Cub c's record of piece j had left before beat y, since its time had come at a tick.
pub record HasLeft (p : Params) (r : Facts) (c : ℕ) (t : Tenancy) (n j y : ℕ) : Type 0 where
  pub beat : ℕ
  pub reading : ℕ
  pub ticked : r.Ticked c beat reading
  pub before : beat < y
  pub past : leave p t n j ≤ reading

-- The answer to an ask of beat b came after at least one beat, and at most two ways later. It met
-- the record by which was asked; or that had left before, or may have been dropped.
pub record IsAnswered (p : Params) (r : Facts) (w : ServiceFacts) (c : ℕ) (t : Tenancy)
    (n j b : ℕ) : Type 0 where
  pub beat : ℕ
  pub later : b < beat
  pub soon : beat ≤ b + 2 * p.delay
  pub what : (w.Stored c t n j beat ⊎ w.Failed c t n j beat)
      ⊎ (HasLeft p r c t n j beat ⊎ IsCutOff r w c t.instance.0 n beat)

-- That cub d serves from a time on was told in beat y, at least one beat after its return: it is
-- the time that the reading of the return's tick gives.
pub record WasBack (p : Params) (r : Facts) (d from y : ℕ) : Type 0 where
  pub beat : ℕ
  pub returned : r.Returned d beat
  pub reading : ℕ
  pub ticked : r.Ticked d beat reading
  pub is_from : from ≡ serves_from p reading
  pub later : beat < y

-- Cub c was told in beat b or before it that its predecessor serves from a time on.
pub record TookBackBy (w : ServiceFacts) (c from b : ℕ) : Type 0 where
  pub beat : ℕ
  pub took : w.TookBack c from beat
  pub by : beat ≤ b

-- Some cub was reached by a deschedule of instance v before beat y.
pub record WasReached (r : Facts) (v y : ℕ) : Type 0 where
  pub cub : ℕ
  pub beat : ℕ
  pub reached : r.Reached cub v beat
  pub earlier : beat < y

-- The laws of blocks, in a run that is looked at up to beat `end`: of one cub, of the runner, or of
-- a message on its way.
pub record ServiceLaws (p : Params) (r : Facts) (q : PieceFacts) (w : ServiceFacts)
    (end : ℕ) : Type 0 where
  -- Runner: each cub has ended each beat below the end in its first life, or has died by then.
  pub ends : {c b : ℕ} → b < end → c < p.cubs → LivedTo r c b ⊎ DiedBy r c b
  -- Runner: a cub comes back once.
  pub returns_once : {c x y : ℕ} → r.Returned c x → r.Returned c y → y ≡ x
  -- Runner: it ends the beat in which it comes back.
  pub returns_ended : {c x : ℕ} → r.Returned c x → Ended r c x
  -- Runner: from then on it ends each beat below the end.
  pub stays : {c x b : ℕ} → r.Returned c x → x ≤ b → b < end → Ended r c b
  -- Return and link: the next cub is told in time that a cub is back, and from when on it serves.
  pub back_arrives : {d x l : ℕ} (c b : ℕ)
      → r.Returned d x → r.Ticked d x l → c ≡ cub_of p (d + 1) → r.Came c b
      → IsSameLife r c x b → x + p.delay ≤ b
      → TookBackBy w c (serves_from p l) (x + p.delay)
  -- Return and link: what it is told of that is true.
  pub back_from : {c d from y : ℕ}
      → w.TookBack c from y → d < p.cubs → c ≡ cub_of p (d + 1) → WasBack p r d from y
  -- Splitting: what is split is left to the cub, whatever it has been told of its predecessor.
  pub left : {c : ℕ} {t : Tenancy} {n b : ℕ} → q.Split c t n b → IsLeftTo p w c t n b
  -- Serving: a cub that has come back sends a whole block only of a visit that is due late enough.
  pub may_serve : {c : ℕ} {t : Tenancy} {n j b : ℕ} → q.Serves c t n j b → MayServe p r c t n j b
  -- Disk and serving: what was split since its disk is dead is not sent whole.
  pub unread : {c d : ℕ} {t : Tenancy} {n x b : ℕ} → q.Spared c t n x → q.Serves d t n 0 b → ⊥
  -- Deadman: a cub in its first life that does not believe its predecessor dead has heard it, or
  -- the run has just begun.
  pub watches : {c b l : ℕ}
      → r.Ticked c b l → IsFirstLife r c b
      → BelievedBy r c b ⊎ (HeardTill p r c b l ⊎ (l ≤ p.deadman))
  -- Heartbeat and link: what a cub hears its predecessor sent at a tick.
  pub heard_from : {c d y : ℕ}
      → r.Heard c y → d < p.cubs → c ≡ cub_of p (d + 1) → WasUp p r d y
  -- Splitting: a cub in its first life that believes its predecessor dead has split each backup
  -- record that is due late enough and left to it.
  pub split_due : {c : ℕ} {t : Tenancy} {n b l : ℕ}
      → BelievedBy r c b → EnteredBy r c t n b → c ≡ cub_of p (n + 1) → r.Ticked c b l
      → IsFirstLife r c b → IsLeftTo p w c t n b
      → l + p.read_lead + p.skew + time_of p p.delay + p.beat ≤ due p t.slot.0 n
      → SplitBy q c t n b ⊎ ReachedBy r c t.instance.0 b
  -- Splitting: the mirror states of all pieces but the first go out, unless the cub dies in that
  -- beat.
  pub mirrors_due : {c : ℕ} {t : Tenancy} {n b l : ℕ} (k : ℕ)
      → q.Split c t n b → r.Ticked c b l → 1 ≤ k → k < p.pieces
      → q.MirrorSent c k t n (k + 1) b
  -- Mirror state and link: it comes in time, and gives a record of its piece, if the cub lets that
  -- in, unless the instance is held.
  pub mirror_arrives : {a k : ℕ} {t : Tenancy} {n j x : ℕ} (c b : ℕ)
      → q.MirrorSent a k t n j x → c ≡ cub_of p (a + k) → c ≡ cub_of p (n + j)
      → r.Came c b → IsSameLife r c x b → LetsIn p r c (leave p t n j) b → x + p.delay ≤ b
      → ArisesBy r q c t n j (x + p.delay) ⊎ ReachedBy r c t.instance.0 (x + p.delay)
  -- Reading: a piece that leaves within the read lead, has not left, and may be served has been
  -- asked for.
  pub asks_due : {c : ℕ} {t : Tenancy} {n j b l : ℕ}
      → ArisesBy r q c t n j b → c ≡ cub_of p (n + j) → r.Ticked c b l
      → l < leave p t n j → leave p t n j ≤ l + p.read_lead → MayServe p r c t n j b
      → AsksInLife r q c t n j b ⊎ IsCutOff r w c t.instance.0 n b
  -- Disk and links: what was asked for is answered, in the life of the ask.
  pub answers : {c : ℕ} {t : Tenancy} {n j b e : ℕ}
      → q.Asks c t n j b → r.Came c e → IsSameLife r c b e → b + 2 * p.delay ≤ e
      → IsAnswered p r w c t n j b
  -- Serving: what is stored and may be served is sent at the first tick at which it is to leave,
  -- within a block play time.
  pub serves_due : {c : ℕ} {t : Tenancy} {n j y b l : ℕ}
      → w.Stored c t n j y → y ≤ b → r.Ticked c b l → IsSameLife r c y b → MayServe p r c t n j b
      → leave p t n j ≤ l → l < due p t.slot.0 n + p.play
      → WasUndue p r c b (leave p t n j) 0
      → q.Serves c t n j b ⊎ IsCutOff r w c t.instance.0 n b
  -- Deschedule and link: a cub is told to drop pieces by a cub that a deschedule reached before.
  pub killed : {c v n y : ℕ} → w.Killed c v n y → WasReached r v y
