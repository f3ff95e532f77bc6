-- For which record a cub asks a disk, and that what it sends or writes down as failed was read so.
use Rattle.std.specs.Prelude.{◌≡◌, ℕ, ◌+◌, ◌<◌, Option, None}
use Rattle.tiger_base.specs.Span.{LibraryPart}
use Rattle.tiger_base.specs.declared.number.LinkNo.{LinkNo}
use Rattle.tiger_base.specs.declared.number.Stamp.{Stamp}
use Rattle.tiger_base.specs.declared.tenancy.Tenancy.{Tenancy}
use Rattle.tiger_base.specs.declared.tenancy.Want.{Want}
use Rattle.tiger_base.specs.declared.message.Msg.TheVariants as msg
use Rattle.tiger_base.specs.declared.part.Span.{Span}
use Rattle.slot_plan.specs.declared.params.Params.{Params}
use Rattle.slot_plan.specs.Conditions.{IsPlan}
use Rattle.slot_plan.specs.Times.{cub_of, disk_count}
use Rattle.stripe_layout.specs.declared.catalogue.Catalogue.{Catalogue}
use Rattle.node_kit.specs.declared.outbox.Out.TheVariants as out
use Rattle.node_kit.specs.Ways.{way_to_disk}
use Rattle.cub_rules.specs.declared.store.Store.{Store}
use Rattle.disk_core.specs.State.{DiskState}
use Rattle.disk_core.specs.Rules.{read_part}
use Rattle.proof_lives.specs.Facts.{DidAt}
use Rattle.proof_lives.specs.Lives.{Lives, AreLives, cut_in}
use Rattle.proof_lives.specs.HoldsHere.{AreAllFormed}
use Rattle.proof_facts.specs.Blocks.{AnsweredAt, SendsAt, blocks_by}
use Rattle.proof_facts.specs.Carried.{AskedDisk, DisksAnswer}
use Rattle.proof_lives.specs.FactsBy.{Beyond, cubs_alone}
use Rattle.proof_facts.specs.Pieces.{want, AsksFor, AsksAt, ServesAt, pieces_by}
use Rattle.proof_facts.specs.Rings.{IsDiskOf, HaveImages}
use Rattle.proof_pieces.specs.PieceLaws.{WasAsked}
use Rattle.proof_service.specs.Disks.{disk_at as disk_of_piece}
use Rattle.proof_service.specs.Disks.{IsRefused, IsRead}

-- A read that goes out on a link goes to the disk of its piece. It is for a record of some tenancy
-- that a cub which keeps h when it begins to ask the disks has, and is to ask for.
pub record IsAskOf (p : Params) (stamp : Stamp) (h : Store) (link : LinkNo)
    (w : Want) : Type 0 where
  pub tenancy : Tenancy
  pub asks : AsksFor p stamp h tenancy w.visit w.piece
  pub same : want tenancy w.visit w.piece ≡ w
  pub way : link ≡ way_to_disk p (disk_of_piece p w.visit w.piece)

-- So is a read that cub c sent on a link in beat b.
pub record AskedForRecord (p : Params) (lives : Lives) (c : ℕ) (link : LinkNo) (w : Want)
    (b : ℕ) : Type 0 where
  pub tenancy : Tenancy
  pub asks : AsksAt p lives c tenancy w.visit w.piece b
  pub same : want tenancy w.visit w.piece ≡ w
  pub way : link ≡ way_to_disk p (disk_of_piece p w.visit w.piece)

-- Each read that was asked for is for a record; and for each record that a cub was to ask for at a
-- tick that its death did not cut off, it asked the disk of the piece.
pub record AreForRecords (p : Params) (lives : Lives) : Type 0 where
  pub reads : (c b : ℕ) (link : LinkNo) (w : Want)
      → DidAt p lives c (out.Send link (msg.ReadAsk w)) b → AskedForRecord p lives c link w b
  pub records : {c : ℕ} {t : Tenancy} {n j b : ℕ}
      → (a : AsksAt p lives c t n j b) → cut_in lives c a.tick.at ≡ None → c ≡ cub_of p (n + j)
      → AskedDisk p lives c (disk_of_piece p n j) (want t n j) b

-- So it is in all lives of the cubs of a plan.
abbrev pub AsksAreForRecords : Type 0
AsksAreForRecords = (p : Params) (lives : Lives)
    → IsPlan p → AreLives p lives → AreForRecords p lives

-- What cub c has of piece j of visit n by beat y, a part or a failure, is what the disk of that
-- piece read in a lower beat; the cub had asked for it in a beat below that, for a record of the
-- same instance and slot.
pub record WasRead (p : Params) (lives : Lives) (disk_at : ℕ → DiskState) (c : ℕ) (t : Tenancy)
    (n j : ℕ) (part : Option LibraryPart) (y : ℕ) : Type 0 where
  pub tenancy : Tenancy
  pub same : tenancy.instance.0 ≡ t.instance.0
  pub slot : tenancy.slot.0 ≡ t.slot.0
  pub asked : ℕ
  pub asks : AsksAt p lives c tenancy n j asked
  pub taken : ℕ
  pub after : asked < taken
  pub before : taken < y
  pub inside : disk_of_piece p n j < disk_count p
  pub is : part ≡ read_part (disk_at (disk_of_piece p n j)) taken (want t n j)

-- What is sent was asked for, and is what the disk of the piece has; and each read that failed was
-- refused.
pub record AreTrueReads (p : Params) (catalogue : Catalogue) (lives : Lives)
    (disk_at : ℕ → DiskState) : Type 0 where
  pub asked : {c : ℕ} {t : Tenancy} {n j b : ℕ}
      → ServesAt p lives c t n j b → WasAsked (pieces_by p lives) c t n j b
  pub refused : {c : ℕ} {t : Tenancy} {n j y : ℕ}
      → AnsweredAt p lives c t n j y None
      → IsRefused p catalogue (blocks_by p lives disk_at) t n j y
  pub sends : {c : ℕ} {t : Tenancy} {n j y : ℕ} {span : Span}
      → SendsAt p lives c t n j y span
      → ServesAt p lives c t n j y × IsRead p catalogue t n j span

-- The disks answer what cubs ask of them; they are those of the plan, and have the images of a
-- catalogue.
pub record HaveDisks (p : Params) (catalogue : Catalogue) (lives : Lives) (beyond : Beyond)
    (disk_at : ℕ → DiskState) : Type 0 where
  pub answer : DisksAnswer p lives beyond disk_at
  pub are : (d : ℕ) → d < disk_count p → IsDiskOf p d (disk_at d)
  pub images : HaveImages p catalogue disk_at

-- Reads are true in all lives of cubs whose disks are so.
abbrev pub ReadsAreTrue : Type 0
ReadsAreTrue = (p : Params) (catalogue : Catalogue) (lives : Lives) (disk_at : ℕ → DiskState)
    → IsPlan p → AreLives p lives → AreAllFormed p lives
    → HaveDisks p catalogue lives (cubs_alone p lives) disk_at
    → AreTrueReads p catalogue lives disk_at
