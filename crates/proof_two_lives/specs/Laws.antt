-- The laws that single nodes and links owe, gathered by what they rest on: of one life of each cub, and of all lives.
use Rattle.std.specs.Prelude.{◌≡◌, ℕ, ◌+◌, ◌*◌, ◌<◌, ◌≤◌, ◌⊎◌}
use Rattle.tiger_base.specs.declared.part.Span.{Span}
use Rattle.tiger_base.specs.declared.tenancy.Ask.{Ask}
use Rattle.tiger_base.specs.declared.tenancy.Tenancy.{Tenancy}
use Rattle.slot_plan.specs.declared.params.Params.{Params}
use Rattle.slot_plan.specs.Times.{time_of, due, cub_of}
use Rattle.stripe_layout.specs.declared.catalogue.Catalogue.{Catalogue}
use Rattle.proof_schedule.specs.Facts.{Facts, Ended, ReachedBy, BelievedBy, EnteredBy, IsFirstLife, IsSameLife, enters_from}
use Rattle.proof_schedule.specs.RunLaws.{RunLaws}
use Rattle.proof_schedule.specs.LinkLaws.{LinkLaws}
use Rattle.proof_schedule.specs.StateLaws.{StateLawsAmong, Stands, Sends}
use Rattle.proof_schedule.specs.StartLaws.{Comes, Waits, IsPlacedBy, IsInWindow}
use Rattle.proof_schedule.specs.WatchLaws.{WatchLaws}
use Rattle.proof_schedule.specs.StopLaws.{StopLaws}
use Rattle.proof_schedule.specs.HoldLaws.{HoldLaws}
use Rattle.proof_pieces.specs.PieceFacts.{PieceFacts, NothingIsSpared, leave, Uses}
use Rattle.proof_pieces.specs.PieceLaws.{IsSplit, IsMirror, IsSpared, IsSpareKilled, WasMirrored, WasUndue, IsThere, WasAsked, IsKilled, IsForgotten, MirrorSince}
use Rattle.proof_service.specs.ServiceFacts.{ServiceFacts, SplitBy, ArisesBy, AsksInLife, IsCutOff, IsLeftTo, LetsIn, MayServe, serves_from}
use Rattle.proof_service.specs.ServiceLaws.{HeardTill, WasUp, IsAnswered, TookBackBy, WasBack}
use Rattle.proof_service.specs.Disks.{FailedThere, IsRefused, IsRead}
use Rattle.proof_two_lives.specs.TwoLives.{BesideFacts}

-- ---- schedule

-- Cub c's view shows, after its tick of beat b, a record of visit n of slot s.
pub record ShowsSlot (r : Facts) (c s n b : ℕ) : Type 0 where
  pub holder : Tenancy
  pub slot : holder.slot.0 ≡ s
  pub shows : r.Shows c holder n b

-- What the cubs' rules on starts, heartbeats and deschedules give.
pub record CubRest (p : Params) (r : Facts) : Type 0 where
  pub watch : WatchLaws p r
  pub holds : HoldLaws p r
  -- A Put is of a start that came.
  pub comes : {c : ℕ} {t : Tenancy} {x : ℕ} → r.Put c t x → Comes p r c t x
  -- A cub puts an instance once.
  pub once : {c : ℕ} {t u : Tenancy} {x y : ℕ}
      → r.Put c t x → r.Put c u y → u.instance.0 ≡ t.instance.0 → (u ≡ t) × (y ≡ x)
  -- While a start waits at a cub in its first life, a record stands at each visit of its disk in the
  -- window.
  pub waits : {c : ℕ} {ask : Ask} {y b l : ℕ} (s n : ℕ)
      → Waits p r c ask n y b → y ≤ b → r.Ticked c b l → IsFirstLife r c b
      → s < p.slots → IsInWindow p l s n
      → Stands p r c s n b ⊎ (IsPlacedBy r c ask.instance.0 b ⊎ ReachedBy r c ask.instance.0 b)
  -- And the cub's view shows such a record after the tick.
  pub waits_shown : {c : ℕ} {ask : Ask} {y b l : ℕ} (s n : ℕ)
      → Waits p r c ask n y b → y ≤ b → r.Ticked c b l → IsFirstLife r c b
      → s < p.slots → IsInWindow p l s n
      → ShowsSlot r c s n b ⊎ (IsPlacedBy r c ask.instance.0 b ⊎ ReachedBy r c ask.instance.0 b)
  -- A cub in its first life that does not believe its predecessor dead has heard it, or the run has
  -- just begun.
  pub watches : {c b l : ℕ}
      → r.Ticked c b l → IsFirstLife r c b
      → BelievedBy r c b ⊎ (HeardTill p r c b l ⊎ (l ≤ p.deadman))

-- What the cubs' rules on records, starts, heartbeats and deschedules give of one life of each cub.
-- What was sent to a cub, and is told by `among`, was sent by another in any of its lives.
pub record LifeLaws (p : Params) (r among : Facts) : Type 0 where
  pub states : StateLawsAmong p r among
  pub rest : CubRest p r

-- What they give, if one telling has all lives.
abbrev pub CubLaws : Params → Facts → Type 0
CubLaws p r = LifeLaws p r r

-- What the runner, the clocks, the links and the controller give.
pub record RingLaws (p : Params) (r : Facts) : Type 0 where
  pub run : RunLaws p r
  pub links : LinkLaws p r
  pub stops : StopLaws p r
  -- An instance has one order, of one beat.
  pub one_order : {a b : Ask} {x y : ℕ}
      → r.Begun a x → r.Begun b y → a.instance.0 ≡ b.instance.0 → (b ≡ a) × (y ≡ x)
  -- An instance is stopped in the beat of its order, or after it.
  pub gone_after : {ask : Ask} {o z : ℕ} → r.Begun ask o → r.Gone ask.instance.0 z → o ≤ z
  -- What a cub hears its predecessor sent at a tick.
  pub heard_from : {c d y : ℕ}
      → r.Heard c y → d < p.cubs → c ≡ cub_of p (d + 1) → WasUp p r d y

-- What the runner and the links give of returns.
pub record ReturnLaws (p : Params) (r : Facts) (w : ServiceFacts) : Type 0 where
  pub returns_once : {c x y : ℕ} → r.Returned c x → r.Returned c y → y ≡ x
  pub returns_ended : {c x : ℕ} → r.Returned c x → Ended r c x
  pub back_arrives : {d x l : ℕ} (c b : ℕ)
      → r.Returned d x → r.Ticked d x l → c ≡ cub_of p (d + 1) → r.Came c b
      → IsSameLife r c x b → x + p.delay ≤ b
      → TookBackBy w c (serves_from p l) (x + p.delay)
  pub back_from : {c d from y : ℕ}
      → w.TookBack c from y → d < p.cubs → c ≡ cub_of p (d + 1) → WasBack p r d from y

-- ---- pieces and blocks

-- A kill of visit n of instance v was sent before beat y.
pub record KillBefore (q : PieceFacts) (v n y : ℕ) : Type 0 where
  pub from : ℕ
  pub ahead : ℕ
  pub slot : ℕ
  pub beat : ℕ
  pub sent : q.KillSent from ahead v slot n beat
  pub before : beat < y

-- What the cubs' rules on splits, mirror states and kills give of one life of each cub, and the links
-- that carry these. Here tells which cub came to its tick of which beat in that life; what was sent to
-- a cub, and is told by `among`, was sent by another in any of its lives.
pub record SplitLaws (p : Params) (r : Facts) (q among : PieceFacts) (w : ServiceFacts)
    (Here : ℕ → ℕ → Type 0) : Type 0 where
  pub splits : {c : ℕ} {t : Tenancy} {n b : ℕ} → q.Split c t n b → IsSplit p r c t n b
  pub left : {c : ℕ} {t : Tenancy} {n b : ℕ} → q.Split c t n b → IsLeftTo p w c t n b
  pub nothing_spared : NothingIsSpared q
  pub mirrors : {a k : ℕ} {t : Tenancy} {n j b : ℕ}
      → q.MirrorSent a k t n j b → IsMirror p q a k t n j b
  pub mirrored : {c : ℕ} {t : Tenancy} {n j y : ℕ}
      → q.Mirrored c t n j y → WasMirrored p among c t n j y
  pub late : {c : ℕ} {t : Tenancy} {n j y w : ℕ}
      → q.Mirrored c t n j y → r.Returned c w → w ≤ y → enters_from p (time_of p w) ≤ leave p t n j
  pub kills : {a : ℕ} {t : Tenancy} {n x y b : ℕ}
      → q.Split a t n x → r.Reached a t.instance.0 y → x < y → Here a b → y ≤ b
      → IsKilled p r q a t n x y ⊎ IsForgotten p r a t n y
  pub kill_reached : {a k v s n b : ℕ} → q.KillSent a k v s n b → r.Reached a v b
  pub killed : {a k c : ℕ} {t : Tenancy} {n j x y b : ℕ}
      → among.Split a t n x → among.KillSent a k t.instance.0 t.slot.0 n y → c ≡ cub_of p (a + k)
      → j ≡ k + 1 → Uses q c t n j b → y + p.delay ≤ b
      → MirrorSince among a k t n j y
  pub split_due : {c : ℕ} {t : Tenancy} {n b l : ℕ}
      → BelievedBy r c b → EnteredBy r c t n b → c ≡ cub_of p (n + 1) → r.Ticked c b l
      → IsFirstLife r c b → IsLeftTo p w c t n b
      → l + p.read_lead + p.skew + time_of p p.delay + p.beat ≤ due p t.slot.0 n
      → SplitBy q c t n b ⊎ ReachedBy r c t.instance.0 b
  pub mirrors_due : {c : ℕ} {t : Tenancy} {n b l : ℕ} (k : ℕ)
      → q.Split c t n b → r.Ticked c b l → 1 ≤ k → k < p.pieces
      → q.MirrorSent c k t n (k + 1) b
  pub mirror_arrives : {a k : ℕ} {t : Tenancy} {n j x : ℕ} (c b : ℕ)
      → among.MirrorSent a k t n j x → c ≡ cub_of p (a + k) → c ≡ cub_of p (n + j)
      → Here c b → IsSameLife r c x b → LetsIn p r c (leave p t n j) b → x + p.delay ≤ b
      → ArisesBy r q c t n j (x + p.delay) ⊎ ReachedBy r c t.instance.0 (x + p.delay)
  pub dropped : {c v n y : ℕ} → w.Killed c v n y → KillBefore among v n y

-- What is beside the cubs' rules: of one cub, and of the links that carry what goes out there. All is
-- what is told of pieces of all lives, and of what is beside.
pub record BesideLaws (p : Params) (r : Facts) (x : BesideFacts) (all : PieceFacts) : Type 0 where
  pub spares : {c : ℕ} {t : Tenancy} {n b : ℕ} → x.Spared c t n b → IsSpared p r c t n b
  pub mirrors : {a k : ℕ} {t : Tenancy} {n j b : ℕ}
      → x.MirrorSent a k t n j b → x.Spared a t n b × ((j ≡ k) × (1 ≤ k))
  pub kill_reached : {a k v s n b : ℕ} → x.KillSent a k v s n b → r.Reached a v b
  pub kills : {a : ℕ} {t : Tenancy} {n y z : ℕ}
      → x.Spared a t n y → r.Reached a t.instance.0 z → y < z
      → IsSpareKilled p r all a t n y z ⊎ IsForgotten p r a t n z
  pub killed : {a k c : ℕ} {t : Tenancy} {n y z b : ℕ}
      → x.Spared a t n y → all.KillSent a k t.instance.0 t.slot.0 n z → c ≡ cub_of p (a + k)
      → Uses all c t n k b → z + p.delay ≤ b
      → MirrorSince all a k t n k z
  pub unread : {c d : ℕ} {t : Tenancy} {n y b : ℕ} → x.Spared c t n y → all.Serves d t n 0 b → ⊥

-- What the cubs' rules on asking and serving give of one life of each cub, and the disks and the
-- links to them, of the pieces whose number is one of these: 0 for whole blocks, and from 1 on for
-- mirror pieces.
pub record ReadLaws (p : Params) (catalogue : Catalogue) (r : Facts) (q : PieceFacts)
    (w : ServiceFacts) (Here : ℕ → ℕ → Type 0) (Is : ℕ → Type 0) : Type 0 where
  pub asks : {c : ℕ} {t : Tenancy} {n j b : ℕ}
      → Is j → q.Asks c t n j b → IsThere p r q c t n j b p.read_lead
  pub serves : {c : ℕ} {t : Tenancy} {n j b : ℕ}
      → Is j → q.Serves c t n j b → IsThere p r q c t n j b 0
  pub asked : {c : ℕ} {t : Tenancy} {n j b : ℕ}
      → Is j → q.Serves c t n j b → WasAsked q c t n j b
  pub may_serve : {c : ℕ} {t : Tenancy} {n j b : ℕ}
      → Is j → q.Serves c t n j b → MayServe p r c t n j b
  pub asks_due : {c : ℕ} {t : Tenancy} {n j b l : ℕ}
      → Is j → ArisesBy r q c t n j b → c ≡ cub_of p (n + j) → r.Ticked c b l
      → l < leave p t n j → leave p t n j ≤ l + p.read_lead → MayServe p r c t n j b
      → AsksInLife r q c t n j b ⊎ IsCutOff r w c t.instance.0 n b
  pub answers : {c : ℕ} {t : Tenancy} {n j b e : ℕ}
      → Is j → q.Asks c t n j b → Here c e → b + 2 * p.delay ≤ e
      → IsAnswered p r w c t n j b
  pub serves_due : {c : ℕ} {t : Tenancy} {n j y b l : ℕ}
      → Is j → w.Stored c t n j y → y ≤ b → r.Ticked c b l → MayServe p r c t n j b
      → leave p t n j ≤ l → l < due p t.slot.0 n + p.play
      → WasUndue p r c b (leave p t n j) 0
      → q.Serves c t n j b ⊎ IsCutOff r w c t.instance.0 n b
  pub failed : {k : ℕ} {t : Tenancy} {n j y : ℕ}
      → Is j → w.Failed k t n j y → FailedThere p r q k t n j y
  pub refused : {k : ℕ} {t : Tenancy} {n j y : ℕ}
      → Is j → w.Failed k t n j y → IsRefused p catalogue w t n j y
  pub sends : {k : ℕ} {t : Tenancy} {n j y : ℕ} {part : Span}
      → Is j → w.Sends k t n j y part
      → q.Serves k t n j y × IsRead p catalogue t n j part
