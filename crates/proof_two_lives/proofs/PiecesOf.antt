-- The facts of pieces and blocks of one life of each cub among those of two.
use Rattle.std.proofs.Common.{ℕ, ◌≤◌, ⊎_elim, inl, inr}
use Rattle.std.specs.Prelude.{◌⊎◌}
use Rattle.tiger_base.specs.declared.tenancy.Tenancy.{Tenancy}
use Rattle.slot_plan.specs.declared.params.Params.{Params}
use Rattle.proof_schedule.specs.Facts.{Facts}
use Rattle.proof_schedule.proofs.Lives.{ReturnAfter}
use Rattle.proof_pieces.specs.PieceFacts.{PieceFacts, Arises, AsksBy}
use Rattle.proof_pieces.specs.PieceLaws.{IsSplit, IsMirror, IsThere, WasUndue, WasAsked, IsKilled, IsForgotten}
use Rattle.proof_service.specs.ServiceFacts.{ServiceFacts, ArisesBy, AsksInLife, IsCutOff, IsLeftTo, KilledBy, LetsIn, MayServe, SplitBy}
use Rattle.proof_service.specs.ServiceLaws.{HasLeft, IsAnswered}
use Rattle.proof_service.specs.Disks.{FailedThere}
use Rattle.proof_two_lives.specs.TwoLives.{ArePiecesOfLives, beside}
use Rattle.proof_two_lives.proofs.Forward.{believed_of, entered_of, reached_of, tick_of}
use Rattle.proof_two_lives.proofs.OneLife.{IsOneLife, entered_in, kept_entered, unheld_of}

-- The piece facts q are of one life of each cub, whose beats In tells, among the piece facts k of
-- all.
pub record ArePiecesOfOne (q k : PieceFacts) (j : Facts) (In : ℕ → ℕ → Type 0) : Type 0 where
  pub split : {c n b : ℕ} {t : Tenancy} → q.Split c t n b → k.Split c t n b
  pub mirrored : {c n i b : ℕ} {t : Tenancy} → q.Mirrored c t n i b → k.Mirrored c t n i b
  pub kill : {a m v s n b : ℕ} → q.KillSent a m v s n b → k.KillSent a m v s n b
  pub mirror : {a m n i b : ℕ} {t : Tenancy} → q.MirrorSent a m t n i b → k.MirrorSent a m t n i b
  pub asks : {c n i b : ℕ} {t : Tenancy} → q.Asks c t n i b → k.Asks c t n i b
  pub serves : {c n i b : ℕ} {t : Tenancy} → q.Serves c t n i b → k.Serves c t n i b
  pub lives : ArePiecesOfLives q In
  pub kept_split : {c n y b : ℕ} {t : Tenancy} → In c b → y ≤ b → k.Split c t n y
      → q.Split c t n y ⊎ ReturnAfter j c y b
  pub kept_mirrored : {c n i y b : ℕ} {t : Tenancy} → In c b → y ≤ b → k.Mirrored c t n i y
      → q.Mirrored c t n i y ⊎ ReturnAfter j c y b

-- The facts w of blocks are of one life of each cub among the facts z of all. No message comes in
-- the beat of a return.
pub record AreBlocksOfOne (w z : ServiceFacts) (j : Facts) (In : ℕ → ℕ → Type 0) : Type 0 where
  pub stored : {c n i b : ℕ} {t : Tenancy} → w.Stored c t n i b → z.Stored c t n i b
  pub failed : {c n i b : ℕ} {t : Tenancy} → w.Failed c t n i b → z.Failed c t n i b
  pub killed : {c v n b : ℕ} → w.Killed c v n b → z.Killed c v n b
  pub told : {c from b : ℕ} → w.TookBack c from b → z.TookBack c from b
  pub behind : {c n i b : ℕ} {t : Tenancy} → w.Stored c t n i b → j.Returned c b → ⊥
  pub kept_stored : {c n i y b : ℕ} {t : Tenancy} → In c b → y ≤ b → z.Stored c t n i y
      → w.Stored c t n i y ⊎ ReturnAfter j c y b

module _ {p : Params} {x j : Facts} {In : ℕ → ℕ → Type 0} (one : IsOneLife x j In) where
  pub undue_of : {c b time lead : ℕ} → WasUndue p (beside j x) c b time lead
      → WasUndue p j c b time lead
  undue_of h = record {
    beat = h.beat;
    reading = h.reading;
    ticked = one.facts.ticked h.ticked;
    next = h.next;
    undue = h.undue;
  }

  pub split_of : {c n b : ℕ} {t : Tenancy} → In c b → IsSplit p (beside j x) c t n b
      → IsSplit p j c t n b
  split_of here h = record {
    reading = h.reading;
    tick = tick_of one.facts h.tick;
    next = h.next;
    believed = believed_of one.facts h.believed;
    beat = h.beat;
    entered = entered_of one.facts h.entered;
    by = h.by;
    since = unheld_of one here h.since;
    soon = h.soon;
  }

  pub forgotten_of : {a n y : ℕ} {t : Tenancy} → IsForgotten p (beside j x) a t n y
      → IsForgotten p j a t n y
  forgotten_of h = record {
    beat = h.beat;
    reading = h.reading;
    ticked = one.facts.ticked h.ticked;
    before = h.before;
    past = h.past;
  }

  has_left_of : {c n i y : ℕ} {t : Tenancy} → HasLeft p (beside j x) c t n i y
      → HasLeft p j c t n i y
  has_left_of h = record {
    beat = h.beat;
    reading = h.reading;
    ticked = one.facts.ticked h.ticked;
    before = h.before;
    past = h.past;
  }

module _ {x j : Facts} {In : ℕ → ℕ → Type 0} (one : IsOneLife x j In) where
  pub lets_in_of : (p : Params) (c at b : ℕ) → LetsIn p j c at b → LetsIn p (beside j x) c at b
  lets_in_of p c at b h y l back tick le = h y l back (one.facts.ticked tick) le

  pub may_serve_of : (p : Params) (c : ℕ) (t : Tenancy) (n i b : ℕ) → MayServe p j c t n i b
      → MayServe p (beside j x) c t n i b
  may_serve_of p c t n i b h y l back tick le whole = h y l back (one.facts.ticked tick) le whole

module _ {x j : Facts} {In : ℕ → ℕ → Type 0} (one : IsOneLife x j In) {q k : PieceFacts}
    (cut : ArePiecesOfOne q k j In) where
  arises_of : {c n i e : ℕ} {t : Tenancy} → Arises (beside j x) q c t n i e
      → Arises j k c t n i e
  arises_of h = ⊎_elim
      (λ a. inl (a.0, entered_of one.facts a.1))
      (λ m. inr (⊎_elim (λ a. inl (a.0, cut.split a.1)) (λ a. inr (cut.mirrored a)) m))
      h

  arises_in : {c n i e : ℕ} {t : Tenancy} → Arises (beside j x) q c t n i e → In c e
  arises_in {c} {n} {i} {e} {t} h = ⊎_elim
      (λ a. entered_in one a.1)
      (λ m. ⊎_elim
      (λ a. cut.lives.split c t n e a.1)
      (λ a. cut.lives.mirrored c t n i e a)
      m)
      h

  pub kept_arises : {c n i e b : ℕ} {t : Tenancy} → In c b → e ≤ b → Arises j k c t n i e
      → Arises (beside j x) q c t n i e ⊎ ReturnAfter j c e b
  kept_arises here le h = ⊎_elim
      (λ a. ⊎_elim (λ m. inl (inl (a.0, m))) (λ m. inr m) (kept_entered one here le a.1))
      (λ n. ⊎_elim
      (λ a. ⊎_elim (λ m. inl (inr (inl (a.0, m)))) (λ m. inr m) (cut.kept_split here le a.1))
      (λ a. ⊎_elim (λ m. inl (inr (inr m))) (λ m. inr m) (cut.kept_mirrored here le a))
      n)
      h

  pub arises_by_of : {c n i b : ℕ} {t : Tenancy} → ArisesBy (beside j x) q c t n i b
      → ArisesBy j k c t n i b
  arises_by_of h =
      record { beat = h.beat; arises = arises_of h.arises; by = h.by; life = h.life }

  pub asks_in_life_of : {c n i b : ℕ} {t : Tenancy} → AsksInLife (beside j x) q c t n i b
      → AsksInLife j k c t n i b
  asks_in_life_of h =
      record { beat = h.beat; asks = cut.asks h.asks; by = h.by; life = h.life }

  pub there_in : {p : Params} {c n i b lead : ℕ} {t : Tenancy}
      → IsThere p (beside j x) q c t n i b lead → In c b
  there_in h = one.on (arises_in h.arises) h.by h.life

  pub there_of : {p : Params} {c n i b lead : ℕ} {t : Tenancy}
      → IsThere p (beside j x) q c t n i b lead → IsThere p j k c t n i b lead
  there_of h = record {
    reading = h.reading;
    tick = tick_of one.facts h.tick;
    whole = ⊎_elim (λ a. inl (one.facts.ticked a)) (λ a. inr a) h.whole;
    here = h.here;
    few = h.few;
    beat = h.beat;
    arises = arises_of h.arises;
    by = h.by;
    life = h.life;
    since = unheld_of one (there_in h) h.since;
    soon = h.soon;
    fresh = ⊎_elim (λ a. inl a) (λ a. inr (undue_of one a)) h.fresh;
  }

  pub killed_of : {p : Params} {a n y z : ℕ} {t : Tenancy}
      → IsKilled p (beside j x) q a t n y z → IsKilled p j k a t n y z
  killed_of h = record {
    beat = h.beat;
    reached = one.facts.reached h.reached;
    after = h.after;
    by = h.by;
    kills = λ m low high. cut.kill (h.kills m low high);
  }

  pub failed_there_of : {p : Params} {c n i y : ℕ} {t : Tenancy}
      → FailedThere p (beside j x) q c t n i y → FailedThere p j k c t n i y
  failed_there_of h =
      record { arises = arises_by_of h.arises; here = h.here; few = h.few }

module _ {q k : PieceFacts} {j : Facts} {In : ℕ → ℕ → Type 0}
    (cut : ArePiecesOfOne q k j In) where
  pub mirror_of : {p : Params} {a m n i b : ℕ} {t : Tenancy} → IsMirror p q a m t n i b
      → IsMirror p k a m t n i b
  mirror_of h = record { split = cut.split h.split; piece = h.piece; some = h.some }

  pub asked_of : {c n i b : ℕ} {t : Tenancy} → WasAsked q c t n i b → WasAsked k c t n i b
  asked_of {c} {n} {i} {b} {t} h =
      let o = h.asked in
      let asked : AsksBy k c h.tenancy n i b =
      record { beat = o.beat; asks = cut.asks o.asks; by = o.by } in
      record { tenancy = h.tenancy; same = h.same; asked = asked }

  pub split_by_of : {c n b : ℕ} {t : Tenancy} → SplitBy q c t n b → SplitBy k c t n b
  split_by_of h = record { beat = h.beat; split = cut.split h.split; by = h.by }

module _ {x j : Facts} {In : ℕ → ℕ → Type 0} (one : IsOneLife x j In) {w z : ServiceFacts}
    (blocks : AreBlocksOfOne w z j In) where
  pub cut_off_of : {c v n b : ℕ} → IsCutOff (beside j x) w c v n b → IsCutOff j z c v n b
  cut_off_of {c} {v} {n} {b} h = ⊎_elim
      (λ a. inl (reached_of one.facts a))
      (λ a.
      let killed : KilledBy z c v n b =
      record { beat = a.beat; killed = blocks.killed a.killed; by = a.by } in
      inr killed)
      h

  pub answered_of : {p : Params} {c n i b : ℕ} {t : Tenancy}
      → IsAnswered p (beside j x) w c t n i b → IsAnswered p j z c t n i b
  answered_of h = record {
    beat = h.beat;
    later = h.later;
    soon = h.soon;
    what = ⊎_elim
        (λ a. inl (⊎_elim (λ m. inl (blocks.stored m)) (λ m. inr (blocks.failed m)) a))
        (λ a. inr (⊎_elim (λ m. inl (has_left_of one m)) (λ m. inr (cut_off_of m)) a))
        h.what;
  }

  pub left_to_of : (p : Params) (c : ℕ) (t : Tenancy) (n b : ℕ) → IsLeftTo p z c t n b
      → IsLeftTo p w c t n b
  left_to_of p c t n b h from y told le = h from y (blocks.told told) le
