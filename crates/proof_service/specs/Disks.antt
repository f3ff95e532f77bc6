-- What the disks answer, what is sent of it, and what follows: a read fails only in a read fault, and parts are right.
use Rattle.std.specs.Prelude.{◌≡◌, ℕ, zero, suc, ◌+◌, ◌-◌, ◌<◌, ◌≤◌, List, Option, Some, None, ◌⊎◌}
use Rattle.tiger_base.specs.Span.{LibraryPart}
use Rattle.tiger_base.specs.declared.part.Span.{Span}
use Rattle.tiger_base.specs.declared.tenancy.Tenancy.{Tenancy}
use Rattle.slot_plan.specs.declared.params.Params.{Params}
use Rattle.slot_plan.specs.Conditions.{IsPlan}
use Rattle.slot_plan.specs.Times.{disk_of, disk_count, cub_of}
use Rattle.stripe_layout.specs.declared.catalogue.Catalogue.{Catalogue}
use Rattle.mirror_pieces.specs.Pieces.{piece_of, piece_disk}
use Rattle.disk_image.specs.Image.{Image, block_part, piece_part}
use Rattle.proof_schedule.specs.Facts.{Facts}
use Rattle.proof_schedule.specs.Laws.{Laws}
use Rattle.proof_schedule.specs.Logs.{Fact, facts_in}
use Rattle.proof_pieces.specs.PieceFacts.{PieceFacts}
use Rattle.proof_pieces.specs.PieceLaws.{PieceLaws}
use Rattle.proof_pieces.specs.PieceLogs.{PieceFact, pieces_in}
use Rattle.proof_service.specs.ServiceFacts.{ServiceFacts, ArisesBy}
use Rattle.proof_service.specs.ServiceLogs.{ServiceFact, service_in}
use Rattle.proof_service.specs.Files.{AreOfFiles, IsStoredAt}

-- The disk of piece j of visit n, and of its whole block if j is 0.
abbrev pub disk_at : Params → ℕ → ℕ → ℕ
disk_at p n j = piece_disk (disk_of p n) j (disk_count p)

-- What an image has of it.
abbrev pub part_at : Image → Tenancy → ℕ → ℕ → Option LibraryPart
part_at m t n zero = block_part m t.file (n - t.first)
part_at m t n (suc k) = piece_part m t.file (n - t.first) (suc k)

-- Which bytes it is, of those of the block.
abbrev pub span_at : Params → Span → ℕ → Span
span_at p block zero = block
span_at p block (suc k) = piece_of block p.pieces (suc k)

-- An image is that of the disk that is asked for it.
pub record IsImageFor (p : Params) (c : Catalogue) (m : Image) (n j : ℕ) : Type 0 where
  pub catalogue : m.catalogue ≡ c
  pub pieces : m.pieces ≡ p.pieces
  pub disk : m.disk ≡ disk_at p n j

-- The record for which a read failed was there, at the cub whose turn it is.
pub record FailedThere (p : Params) (r : Facts) (q : PieceFacts) (k : ℕ) (t : Tenancy)
    (n j y : ℕ) : Type 0 where
  pub arises : ArisesBy r q k t n j y
  pub here : k ≡ cub_of p (n + j)
  pub few : j ≤ p.pieces

-- A read that failed by beat y was asked of the disk in a lower beat: in a read fault of it, or its
-- image has no such part.
pub record IsRefused (p : Params) (c : Catalogue) (w : ServiceFacts) (t : Tenancy)
    (n j y : ℕ) : Type 0 where
  pub beat : ℕ
  pub before : beat < y
  pub why : w.Struck (disk_at p n j) beat
      ⊎ ((m : Image) × IsImageFor p c m n j × (part_at m t n j ≡ None))

-- What is sent is what the disk's image has.
pub record IsRead (p : Params) (c : Catalogue) (t : Tenancy) (n j : ℕ) (part : Span) : Type 0 where
  pub image : Image
  pub right : IsImageFor p c image n j
  pub has : part_at image t n j ≡ Some (record { library = image.library; span = part })

-- The laws of disks: of the controller's orders, of one cub, or of a disk and two messages.
pub record DiskLaws (p : Params) (c : Catalogue) (r : Facts) (q : PieceFacts)
    (w : ServiceFacts) : Type 0 where
  -- Controller: orders are for whole files.
  pub files : AreOfFiles p c r
  -- A disk's answer: that a read failed is written down for a record that is there.
  pub failed : {k : ℕ} {t : Tenancy} {n j y : ℕ} → w.Failed k t n j y → FailedThere p r q k t n j y
  -- Disk and links: why a read failed.
  pub refused : {k : ℕ} {t : Tenancy} {n j y : ℕ} → w.Failed k t n j y → IsRefused p c w t n j y
  -- Serving, disk and links: what is sent is a part that the disk answered with.
  pub sends : {k : ℕ} {t : Tenancy} {n j y : ℕ} {part : Span}
      → w.Sends k t n j y part → q.Serves k t n j y × IsRead p c t n j part

-- A read that failed by beat y was asked in a read fault of the disk that has what was asked for.
pub record IsTrueFault (p : Params) (c : Catalogue) (w : ServiceFacts) (k : ℕ) (t : Tenancy)
    (n j y : ℕ) : Type 0 where
  pub here : k ≡ cub_of p (n + j)
  pub stored : IsStoredAt p c t n
  pub beat : ℕ
  pub before : beat < y
  pub struck : w.Struck (disk_at p n j) beat

-- What was sent is the visit's block, or the piece of it.
pub record IsRightPart (p : Params) (c : Catalogue) (t : Tenancy) (n j : ℕ)
    (part : Span) : Type 0 where
  pub stored : IsStoredAt p c t n
  pub right : part ≡ span_at p stored.block.span j

-- Reads are true: what holds of all reads that failed, and of all that was sent.
pub record AreReadsTrue (p : Params) (c : Catalogue) (w : ServiceFacts) : Type 0 where
  pub faults : (k n j y : ℕ) (t : Tenancy) → w.Failed k t n j y → IsTrueFault p c w k t n j y
  pub parts : (k n j y : ℕ) (t : Tenancy) (part : Span)
      → w.Sends k t n j y part → IsRightPart p c t n j part

-- Whatever the facts of a run of a plan, if they meet the laws of the schedule, of pieces and of
-- disks, reads are true.
abbrev pub ReadsAreTrue : Type 0
ReadsAreTrue = (p : Params) (c : Catalogue) (log : List Fact) (more : List PieceFact)
    (rest : List ServiceFact)
    → IsPlan p → Laws p (facts_in log) → PieceLaws p (facts_in log) (pieces_in more)
    → DiskLaws p c (facts_in log) (pieces_in more) (service_in rest)
    → AreReadsTrue p c (service_in rest)
