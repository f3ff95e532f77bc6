-- The laws of asking and serving of whole blocks: each is proved of number 0, and so holds of every number that is 0.
use Rattle.std.proofs.Common.{◌≡◌, ℕ, ◌+◌, ◌*◌, ◌<◌, ◌≤◌, sym, subst}
use Rattle.std.specs.Prelude.{◌⊎◌}
use Rattle.tiger_base.specs.declared.tenancy.Tenancy.{Tenancy}
use Rattle.slot_plan.specs.declared.params.Params.{Params}
use Rattle.slot_plan.specs.Conditions.{IsPlan}
use Rattle.slot_plan.specs.Times.{due, cub_of}
use Rattle.stripe_layout.specs.declared.catalogue.Catalogue.{Catalogue}
use Rattle.disk_core.specs.State.{DiskState}
use Rattle.proof_lives.specs.Lives.{Lives, AreLives}
use Rattle.proof_lives.specs.HoldsHere.{AreAllFormed}
use Rattle.proof_lives.proofs.Fitting.{Fits}
use Rattle.proof_schedule.specs.Facts.{Facts}
use Rattle.proof_pieces.specs.PieceFacts.{PieceFacts, leave}
use Rattle.proof_pieces.specs.PieceLaws.{IsThere, WasUndue}
use Rattle.proof_service.specs.ServiceFacts.{ServiceFacts, ArisesBy, AsksInLife, IsCutOff, MayServe}
use Rattle.proof_service.specs.ServiceLaws.{IsAnswered}
use Rattle.proof_service.specs.Disks.{FailedThere}
use Rattle.proof_facts.specs.Blocks.{blocks_by}
use Rattle.proof_facts.specs.Carried.{DisksAnswer}
use Rattle.proof_lives.specs.FactsBy.{Beyond, CameToTick, facts_by}
use Rattle.proof_facts.specs.Laws.{ReadLaws}
use Rattle.proof_facts.specs.Pieces.{pieces_by}
use Rattle.proof_parts.specs.Asks.{HaveDisks}
use Rattle.proof_parts.proofs.KnownAsks.{AsksAreKnown}
use Rattle.proof_parts.proofs.TrueReads.{sent_was_asked, failed_was_refused, sent_is_read}
use Rattle.proof_blocks.specs.Blocks.{IsWhole}
use Rattle.proof_blocks.proofs.Living.{AreCubs}
use Rattle.proof_blocks.proofs.Asking.{asks, asks_due}
use Rattle.proof_blocks.proofs.Answered.{answers, failed}
use Rattle.proof_blocks.proofs.Comebacks.{may_serve}
use Rattle.proof_blocks.proofs.Serving.{serves, serves_due}

-- a law of the whole block, of a number that is 0
at_whole : {j : ℕ} (P : ℕ → Type 0) → j ≡ 0 → P 0 → P j
at_whole P e law = subst P (sym e) law

module _ (p : Params) (lives : Lives) (cubs : AreCubs p lives) (disk_at : ℕ → DiskState) (beyond : Beyond)
    (fits : Fits p lives beyond)
    (disks : DisksAnswer p lives beyond disk_at) where
  abbrev r : Facts
  r = facts_by p lives beyond

  abbrev q : PieceFacts
  q = pieces_by p lives

  abbrev w : ServiceFacts
  w = blocks_by p lives disk_at

  asks_of : {c : ℕ} {t : Tenancy} {n j b : ℕ} → j ≡ 0 → q.Asks c t n j b → IsThere p r q c t n j b p.read_lead
  asks_of {c} {t} {n} {j} {b} e =
      at_whole (λ (i : ℕ). q.Asks c t n i b → IsThere p r q c t n i b p.read_lead) e
      (λ a. asks p lives cubs disk_at beyond fits a)

  serves_of : {c : ℕ} {t : Tenancy} {n j b : ℕ} → j ≡ 0 → q.Serves c t n j b → IsThere p r q c t n j b 0
  serves_of {c} {t} {n} {j} {b} e =
      at_whole (λ (i : ℕ). q.Serves c t n i b → IsThere p r q c t n i b 0) e
      (λ a. serves p lives cubs beyond disk_at fits a)

  may_serve_of : {c : ℕ} {t : Tenancy} {n j b : ℕ} → j ≡ 0 → q.Serves c t n j b → MayServe p r c t n j b
  may_serve_of {c} {t} {n} {j} {b} e =
      at_whole (λ (i : ℕ). q.Serves c t n i b → MayServe p r c t n i b) e
      (λ a. may_serve p lives cubs beyond fits a)

  asks_due_of : {c : ℕ} {t : Tenancy} {n j b l : ℕ} → j ≡ 0 → ArisesBy r q c t n j b → c ≡ cub_of p (n + j)
      → r.Ticked c b l
      → l < leave p t n j → leave p t n j ≤ l + p.read_lead → MayServe p r c t n j b
      → AsksInLife r q c t n j b ⊎ IsCutOff r w c t.instance.0 n b
  asks_due_of {c} {t} {n} {j} {b} {l} e =
      at_whole
      (λ (i : ℕ). ArisesBy r q c t n i b → c ≡ cub_of p (n + i) → r.Ticked c b l → l < leave p t n i
      → leave p t n i ≤ l + p.read_lead → MayServe p r c t n i b
      → AsksInLife r q c t n i b ⊎ IsCutOff r w c t.instance.0 n b)
      e (λ a here tick undue soon may. asks_due p lives cubs disk_at beyond fits a here tick undue soon may)

  answers_of : {c : ℕ} {t : Tenancy} {n j b e : ℕ} → j ≡ 0 → q.Asks c t n j b → CameToTick p lives c e → b + 2 * p.delay ≤ e
      → IsAnswered p r w c t n j b
  answers_of {c} {t} {n} {j} {b} {e} z =
      at_whole (λ (i : ℕ). q.Asks c t n i b → CameToTick p lives c e → b + 2 * p.delay ≤ e → IsAnswered p r w c t n i b) z
      (λ a there late. answers p lives cubs disk_at beyond fits disks a there late)

  serves_due_of : {c : ℕ} {t : Tenancy} {n j y b l : ℕ} → j ≡ 0 → w.Stored c t n j y → y ≤ b → r.Ticked c b l
      → MayServe p r c t n j b → leave p t n j ≤ l
      → l < due p t.slot.0 n + p.play → WasUndue p r c b (leave p t n j) 0
      → q.Serves c t n j b ⊎ IsCutOff r w c t.instance.0 n b
  serves_due_of {c} {t} {n} {j} {y} {b} {l} e =
      at_whole
      (λ (i : ℕ). w.Stored c t n i y → y ≤ b → r.Ticked c b l → MayServe p r c t n i b → leave p t n i ≤ l
      → l < due p t.slot.0 n + p.play
      → WasUndue p r c b (leave p t n i) 0 → q.Serves c t n i b ⊎ IsCutOff r w c t.instance.0 n b)
      e (λ s le tick may past late u. serves_due p lives cubs beyond disk_at fits s le tick may past late u)

  failed_of : {k : ℕ} {t : Tenancy} {n j y : ℕ} → j ≡ 0 → w.Failed k t n j y → FailedThere p r q k t n j y
  failed_of {k} {t} {n} {j} {y} e =
      at_whole (λ (i : ℕ). w.Failed k t n i y → FailedThere p r q k t n i y) e
      (λ a. failed p lives cubs disk_at beyond fits disks a)

-- The laws hold whatever is known beyond the cubs' lives, if that fits them, and if it is known what cubs asked for.
pub read_laws : (p : Params) (catalogue : Catalogue) (lives : Lives) (disk_at : ℕ → DiskState) → IsPlan p
    → AreLives p lives → AreAllFormed p lives
    → (beyond : Beyond) → Fits p lives beyond → AsksAreKnown p lives beyond
    → HaveDisks p catalogue lives beyond disk_at
    → ReadLaws p catalogue (facts_by p lives beyond) (pieces_by p lives) (blocks_by p lives disk_at) (CameToTick p lives) IsWhole
read_laws p catalogue lives disk_at plan are formed beyond fits known disks =
    let cubs : AreCubs p lives = record { plan = plan; lived = are; formed = formed } in
    record {
      asks = λ e a. asks_of p lives cubs disk_at beyond fits disks.answer e a;
      serves = λ e a. serves_of p lives cubs disk_at beyond fits disks.answer e a;
      asked = λ e a. sent_was_asked p plan lives are formed beyond known disk_at disks.answer a;
      may_serve = λ e a. may_serve_of p lives cubs disk_at beyond fits disks.answer e a;
      asks_due = λ e a here tick undue soon may.
          asks_due_of p lives cubs disk_at beyond fits disks.answer e a here tick undue soon may;
      answers = λ e a there late. answers_of p lives cubs disk_at beyond fits disks.answer e a there late;
      serves_due = λ e s le tick may past late u.
          serves_due_of p lives cubs disk_at beyond fits disks.answer e s le tick may past late u;
      failed = λ e a. failed_of p lives cubs disk_at beyond fits disks.answer e a;
      refused = λ e a.
          failed_was_refused p plan lives are formed beyond known disk_at disks.answer catalogue disks.are disks.images a;
      sends = λ e a.
          sent_is_read p plan lives are formed beyond known disk_at disks.answer catalogue disks.are disks.images a;
    }
