-- Cubs, their disks and the links to them meet the laws of asking and serving of mirror pieces.
use Rattle.std.proofs.Common.{ℕ, ◌≤◌, arith}
use Rattle.slot_plan.specs.declared.params.Params.{Params}
use Rattle.slot_plan.specs.Conditions.{IsPlan}
use Rattle.stripe_layout.specs.declared.catalogue.Catalogue.{Catalogue}
use Rattle.disk_core.specs.State.{DiskState}
use Rattle.proof_lives.specs.Lives.{Lives, AreLives}
use Rattle.proof_lives.specs.HoldsHere.{AreAllFormed}
use Rattle.proof_facts.specs.Blocks.{blocks_by}
use Rattle.proof_lives.specs.FactsBy.{Beyond, CameToTick, facts_by, cubs_alone}
use Rattle.proof_lives.proofs.Fitting.{Fits, alone_fits}
use Rattle.proof_facts.specs.Laws.{ReadLaws}
use Rattle.proof_facts.specs.Pieces.{pieces_by}
use Rattle.proof_parts.specs.Asks.{HaveDisks}
use Rattle.proof_parts.specs.PieceReads.{CubsServePieces}
use Rattle.proof_parts.proofs.Asking.{asks_there, serves_there, failed_there}
use Rattle.proof_parts.proofs.Due.{due_is_asked, ask_is_answered, stored_is_sent}
use Rattle.proof_parts.proofs.KnownAsks.{AsksAreKnown, alone_asks}
use Rattle.proof_parts.proofs.TrueReads.{sent_was_asked, failed_was_refused, sent_is_read}

-- They meet them whatever is beyond the cubs' lives, if that fits them, and if it is known what cubs asked for.
pub read_laws : (p : Params) (catalogue : Catalogue) (lives : Lives) (disk_at : ℕ → DiskState) → IsPlan p
    → AreLives p lives → AreAllFormed p lives
    → (beyond : Beyond) → Fits p lives beyond → AsksAreKnown p lives beyond
    → HaveDisks p catalogue lives beyond disk_at
    → ReadLaws p catalogue (facts_by p lives beyond) (pieces_by p lives) (blocks_by p lives disk_at)
    (CameToTick p lives) (λ j. 1 ≤ j)
read_laws p catalogue lives disk_at plan are formed beyond fits known disks = record {
  asks = λ some a. asks_there p plan lives are formed beyond fits some a;
  serves = λ some s. serves_there p plan lives are formed beyond fits some s;
  asked = λ some s. sent_was_asked p plan lives are formed beyond known disk_at disks.answer s;
  may_serve = λ some s x l back tick le none. absurd (omega arith);
  asks_due = λ some from here tick late soon may.
      due_is_asked p plan lives are formed beyond fits disk_at some from tick late soon;
  answers = λ some a come late.
      ask_is_answered p plan lives are formed beyond fits disk_at disks.answer some a come late;
  serves_due = λ some s le tick may leaves fresh u.
      stored_is_sent p plan lives are formed beyond fits disk_at some s le tick leaves fresh u;
  failed = λ some a. failed_there p plan lives are formed beyond fits some a;
  refused = λ some a.
      failed_was_refused p plan lives are formed beyond known disk_at disks.answer catalogue disks.are disks.images a;
  sends = λ some s.
      sent_is_read p plan lives are formed beyond known disk_at disks.answer catalogue disks.are disks.images s;
}

-- and so of cubs alone
pub cubs_serve : CubsServePieces
cubs_serve p catalogue lives disk_at plan are formed disks =
    read_laws p catalogue lives disk_at plan are formed (cubs_alone p lives) (alone_fits p lives) (alone_asks p lives) disks
