-- The laws of pieces and of blocks of one life, said of all lives.
use Rattle.std.proofs.Common.{◌≡◌, ℕ, ◌+◌, ◌*◌, ◌<◌, ◌≤◌, subst, arith, ⊎_elim, inl, inr}
use Rattle.std.specs.Prelude.{◌⊎◌}
use Rattle.tiger_base.specs.declared.part.Span.{Span}
use Rattle.tiger_base.specs.declared.tenancy.Tenancy.{Tenancy}
use Rattle.slot_plan.specs.declared.params.Params.{Params}
use Rattle.slot_plan.specs.Times.{due, cub_of}
use Rattle.stripe_layout.specs.declared.catalogue.Catalogue.{Catalogue}
use Rattle.proof_schedule.specs.Facts.{Facts, IsSameLife, ReachedBy}
use Rattle.proof_schedule.proofs.Lives.{ReturnAfter, same_life_later}
use Rattle.proof_pieces.specs.PieceFacts.{PieceFacts, Uses, leave}
use Rattle.proof_pieces.specs.PieceLaws.{IsSplit, IsMirror, IsThere, WasUndue, WasAsked, IsKilled, IsForgotten, MirrorSince}
use Rattle.proof_service.specs.ServiceFacts.{ServiceFacts, ArisesBy, AsksInLife, IsCutOff, LetsIn, MayServe}
use Rattle.proof_service.specs.ServiceLaws.{IsAnswered}
use Rattle.proof_service.specs.Disks.{FailedThere, IsRead}
use Rattle.proof_two_lives.specs.Laws.{SplitLaws, ReadLaws}
use Rattle.proof_two_lives.specs.TwoLives.{beside}
use Rattle.proof_two_lives.proofs.Forward.{reached_of}
use Rattle.proof_two_lives.proofs.OneLife.{IsOneLife, in_same_life}
use Rattle.proof_two_lives.proofs.PiecesOf.{AreBlocksOfOne, ArePiecesOfOne, answered_of, arises_by_of, asked_of, asks_in_life_of, cut_off_of, failed_there_of, forgotten_of, kept_arises, killed_of, lets_in_of, may_serve_of, mirror_of, split_of, there_in, there_of}

-- Two facts of one beat are of one life.
pub in_same_beat : {j : Facts} {c b : ℕ} {A : Type 0} → A ⊎ ReturnAfter j c b b → A
in_same_beat h = in_same_life (λ w back le. le) h

module _ {p : Params} {x j : Facts} {In Here : ℕ → ℕ → Type 0} (one : IsOneLife x j In)
    (here : (c b : ℕ) → j.Came c b → In c b → Here c b) {q k : PieceFacts}
    (cut : ArePiecesOfOne q k j In) {w : ServiceFacts}
    (law : SplitLaws p (beside j x) q k w Here) where
  pub splits : {c n b : ℕ} {t : Tenancy} → q.Split c t n b → IsSplit p j c t n b
  splits {c} {n} {b} {t} h = split_of one (cut.lives.split c t n b h) (law.splits h)

  pub mirrors : {a m n i b : ℕ} {t : Tenancy} → q.MirrorSent a m t n i b
      → IsMirror p k a m t n i b
  mirrors h = mirror_of cut (law.mirrors h)

  pub kills : {a n e y b : ℕ} {t : Tenancy} → q.Split a t n e → j.Reached a t.instance.0 y
      → e < y → j.Came a b → y ≤ b → IsSameLife j a e b
      → IsKilled p j k a t n e y ⊎ IsForgotten p j a t n y
  kills {a} {n} {e} {y} {b} {t} h reached before came le same =
      let until : e ≤ b = omega arith in
      let low : e ≤ y = omega arith in
      let in_life = one.on (cut.lives.split a t n e h) until same in
      let later = same_life_later j a e y b low same in
      let own = in_same_life later (one.kept.reached in_life le reached) in
      ⊎_elim
      (λ m. inl (killed_of one cut m))
      (λ m. inr (forgotten_of one m))
      (law.kills h own before (here a b came in_life) le)

  pub mirrors_due : {c n b l : ℕ} {t : Tenancy} (m : ℕ) → q.Split c t n b → j.Ticked c b l
      → 1 ≤ m → m < p.pieces → k.MirrorSent c m t n (m + 1) b
  mirrors_due {c} {n} {b} {l} {t} m h tick low high =
      let le : b ≤ b = omega arith in
      let own = in_same_beat (one.kept.ticked (cut.lives.split c t n b h) le tick) in
      cut.mirror (law.mirrors_due m h own low high)

  pub mirror_arrives : {a m n i y : ℕ} {t : Tenancy} (c b : ℕ) → k.MirrorSent a m t n i y
      → c ≡ cub_of p (a + m) → c ≡ cub_of p (n + i) → Here c b → IsSameLife j c y b
      → LetsIn p j c (leave p t n i) b → y + p.delay ≤ b
      → ArisesBy j k c t n i (y + p.delay) ⊎ ReachedBy j c t.instance.0 (y + p.delay)
  mirror_arrives {a} {m} {n} {i} {y} {t} c b sent to at came same let_in late = ⊎_elim
      (λ h. inl (arises_by_of one cut h))
      (λ h. inr (reached_of one.facts h))
      (law.mirror_arrives c b sent to at came same (lets_in_of one p c (leave p t n i) b let_in)
      late)

  pub killed : {a m c n i x y b : ℕ} {t : Tenancy} → k.Split a t n x
      → k.KillSent a m t.instance.0 t.slot.0 n y → c ≡ cub_of p (a + m) → i ≡ m + 1
      → Uses q c t n i b → y + p.delay ≤ b
      → MirrorSince k a m t n i y
  killed split sent to piece used late = law.killed split sent to piece used late

module _ {p : Params} {catalogue : Catalogue} {x j : Facts} {In Here : ℕ → ℕ → Type 0}
    (one : IsOneLife x j In) (here : (c b : ℕ) → j.Came c b → In c b → Here c b)
    {q k : PieceFacts} (cut : ArePiecesOfOne q k j In) {w : ServiceFacts}
    (law : ReadLaws p catalogue (beside j x) q w Here (λ i. Unit)) where
  pub asks : {c n i b : ℕ} {t : Tenancy} → q.Asks c t n i b → IsThere p j k c t n i b p.read_lead
  asks h = there_of one cut (law.asks tt h)

  pub serves : {c n i b : ℕ} {t : Tenancy} → q.Serves c t n i b → IsThere p j k c t n i b 0
  serves h = there_of one cut (law.serves tt h)

  pub asked : {c n i b : ℕ} {t : Tenancy} → q.Serves c t n i b → WasAsked k c t n i b
  asked h = asked_of cut (law.asked tt h)

  -- A cub has one reading at its return, since it comes back once.
  pub may_serve : {c n i b : ℕ} {t : Tenancy}
      → ((c y z : ℕ) → j.Returned c y → j.Returned c z → z ≡ y) → q.Serves c t n i b
      → MayServe p j c t n i b
  may_serve {c} {n} {i} {b} {t} once h = λ y l back tick le whole.
      let in_life = there_in one cut (law.serves tt h) in
      ⊎_elim
      (λ own. law.may_serve tt h y l back own le whole)
      (λ m.
      let after = m.after in
      let same = once c y m.beat back m.returned in
      absurd (omega arith))
      (one.kept.ticked in_life le tick)

  pub failed : {c n i y : ℕ} {t : Tenancy} → w.Failed c t n i y → FailedThere p j k c t n i y
  failed h = failed_there_of one cut (law.failed tt h)

  pub sends : {c n i y : ℕ} {t : Tenancy} {part : Span} → w.Sends c t n i y part
      → k.Serves c t n i y × IsRead p catalogue t n i part
  sends h = let m = law.sends tt h in (cut.serves m.0, m.1)

  module _ {z : ServiceFacts} (blocks : AreBlocksOfOne w z j In) where
    pub asks_due : {c n i b l : ℕ} {t : Tenancy} → ArisesBy j k c t n i b
        → c ≡ cub_of p (n + i) → x.Ticked c b l → l < leave p t n i
        → leave p t n i ≤ l + p.read_lead → MayServe p j c t n i b
        → AsksInLife j k c t n i b ⊎ IsCutOff j z c t.instance.0 n b
    asks_due {c} {n} {i} {b} {l} {t} h at tick early soon may =
        let by = h.by in
        let in_life = one.lives.ticked c b l tick in
        let own : ArisesBy (beside j x) q c t n i b = record {
          beat = h.beat;
          arises = in_same_life h.life (kept_arises one cut in_life by h.arises);
          by = by;
          life = h.life;
        } in
        ⊎_elim
        (λ m. inl (asks_in_life_of one cut m))
        (λ m. inr (cut_off_of one blocks m))
        (law.asks_due tt own at tick early soon (may_serve_of one p c t n i b may))

    pub answers : {c n i b e : ℕ} {t : Tenancy} → q.Asks c t n i b → j.Came c e
        → IsSameLife j c b e → b + 2 * p.delay ≤ e → IsAnswered p j z c t n i b
    answers {c} {n} {i} {b} {e} {t} h came same late =
        let le : b ≤ e = omega arith in
        let in_life = one.on (there_in one cut (law.asks tt h)) le same in
        answered_of one blocks (law.answers tt h (here c e came in_life) late)

    -- The tick before is of that life, since nothing is stored in the beat of a return.
    undue_own : {c n i y b time lead : ℕ} {t : Tenancy} → w.Stored c t n i y → y ≤ b → In c b
        → IsSameLife j c y b → WasUndue p j c b time lead
        → WasUndue p (beside j x) c b time lead
    undue_own {c} {n} {i} {y} {b} {time} {lead} {t} stored le in_life same h =
        let next = h.next in
        let before : h.beat ≤ b = omega arith in
        let own = ⊎_elim
        (λ a. a)
        (λ m.
        let after = m.after in
        let by = m.by in
        let low = same m.beat m.returned by in
        let at : m.beat ≡ y = omega arith in
        absurd (blocks.behind stored (subst (λ v. j.Returned c v) at m.returned)))
        (one.kept.ticked in_life before h.ticked) in
        record {
          beat = h.beat;
          reading = h.reading;
          ticked = own;
          next = next;
          undue = h.undue;
        }

    pub serves_due : {c n i y b l : ℕ} {t : Tenancy} → z.Stored c t n i y → y ≤ b
        → x.Ticked c b l → IsSameLife j c y b → MayServe p j c t n i b → leave p t n i ≤ l
        → l < due p t.slot.0 n + p.play → WasUndue p j c b (leave p t n i) 0
        → k.Serves c t n i b ⊎ IsCutOff j z c t.instance.0 n b
    serves_due {c} {n} {i} {y} {b} {l} {t} h le tick same may past fresh undue =
        let in_life = one.lives.ticked c b l tick in
        let own = in_same_life same (blocks.kept_stored in_life le h) in
        ⊎_elim
        (λ m. inl (cut.serves m))
        (λ m. inr (cut_off_of one blocks m))
        (law.serves_due tt own le tick (may_serve_of one p c t n i b may) past fresh
        (undue_own own le in_life same undue))
