-- What holds of every history of a ring in which cubs may die and return: one schedule, right pieces, served blocks, true reads;
-- and so if cubs put out more than their rules say, and what they add meets laws of its own.
use Rattle.std.specs.Prelude.{ℕ, List}
use Rattle.tiger_base.specs.declared.message.Msg.{Msg}
use Rattle.slot_plan.specs.declared.params.Params.{Params}
use Rattle.slot_plan.specs.Conditions.{IsPlan}
use Rattle.stripe_layout.specs.declared.catalogue.Catalogue.{Catalogue}
use Rattle.node_kit.specs.declared.course.Order.{Order}
use Rattle.node_kit.specs.Steps.{Deed, Input}
use Rattle.run_facts.specs.Histories.{History}
use Rattle.disk_core.specs.State.{DiskState}
use Rattle.proof_schedule.specs.Laws.{Laws}
use Rattle.proof_schedule.specs.Schedule.{IsOneSchedule}
use Rattle.proof_pieces.specs.PieceLaws.{PieceLaws}
use Rattle.proof_pieces.specs.Pieces.{ArePiecesRight}
use Rattle.proof_service.specs.ServiceLaws.{ServiceLaws}
use Rattle.proof_service.specs.Blocks.{AreBlocksServed}
use Rattle.proof_service.specs.Disks.{DiskLaws, AreReadsTrue}
use Rattle.proof_service.specs.Files.{AreStored}
use Rattle.proof_facts.specs.Beside.{Additions, beside_by, nothing_added}
use Rattle.proof_facts.specs.Facts.{blocks_of, facts_of, pieces_beside, pieces_of}
use Rattle.proof_facts.specs.Laws.{BesideLaws}
use Rattle.proof_facts.specs.Lives.{lives_of}
use Rattle.proof_facts.specs.Rings.{IsRingHistory, IsRingWith, IsUpTo, AreOfCatalogue, HaveImages}

-- A ring's history over a catalogue, in which cubs put out what is added: its orders are for whole files
-- of the catalogue, and its disks have its images.
pub record IsFiledWith {S : Type 0} (step : S → Input Msg → Deed Msg S) (p : Params)
    (catalogue : Catalogue) (orders : List Order) (disk_at : ℕ → DiskState) (added : Additions)
    (h : History Msg S) : Type 0 where
  pub ring : IsRingWith step p orders disk_at added h
  pub files : AreOfCatalogue p catalogue orders
  pub images : HaveImages p catalogue disk_at

-- The same, and nothing is added.
abbrev pub IsFiledHistory : {S : Type 0} → (S → Input Msg → Deed Msg S) → Params → Catalogue
    → List Order → (ℕ → DiskState) → History Msg S → Type 0
IsFiledHistory step p catalogue orders disk_at h =
    IsFiledWith step p catalogue orders disk_at nothing_added h

-- What is added meets the laws of what is beside the cubs' rules.
abbrev pub IsRightlyAdded : {S : Type 0} → Params → List Order → Additions → History Msg S → Type 0
IsRightlyAdded p orders added h =
    BesideLaws p (facts_of p orders h) (beside_by p (lives_of h) added) (pieces_beside p added h)

-- The laws of single nodes and links hold of the facts of a history. Those of blocks take a beat up
-- to which the history goes.
pub record MeetsLawsWith {S : Type 0} (p : Params) (catalogue : Catalogue) (orders : List Order)
    (disk_at : ℕ → DiskState) (added : Additions) (h : History Msg S) : Type 0 where
  pub schedule : Laws p (facts_of p orders h)
  pub pieces : PieceLaws p (facts_of p orders h) (pieces_beside p added h)
  pub blocks : (end : ℕ) → IsUpTo p end h
      → ServiceLaws p (facts_of p orders h) (pieces_beside p added h) (blocks_of p h disk_at) end
  pub disks : DiskLaws p catalogue (facts_of p orders h) (pieces_beside p added h)
      (blocks_of p h disk_at)

abbrev pub MeetsLaws : {S : Type 0} → Params → Catalogue → List Order → (ℕ → DiskState)
    → History Msg S → Type 0
MeetsLaws p catalogue orders disk_at h = MeetsLawsWith p catalogue orders disk_at nothing_added h

abbrev pub HistoriesMeetTheLaws : (S : Type 0) → Type 0
HistoriesMeetTheLaws S =
    (step : S → Input Msg → Deed Msg S) (p : Params) (catalogue : Catalogue) (orders : List Order)
    (disk_at : ℕ → DiskState) (h : History Msg S)
    → IsPlan p → IsFiledHistory step p catalogue orders disk_at h
    → MeetsLaws p catalogue orders disk_at h

-- There is one schedule in every history of a ring, whatever its files are.
abbrev pub HistoriesHaveOneSchedule : (S : Type 0) → Type 0
HistoriesHaveOneSchedule S =
    (step : S → Input Msg → Deed Msg S) (p : Params) (orders : List Order)
    (disk_at : ℕ → DiskState) (h : History Msg S)
    → IsPlan p → IsRingHistory step p orders disk_at h → IsOneSchedule p (facts_of p orders h)

-- And blocks and pieces are rightly asked for and sent, and read truly.
pub record IsRightlyReadWith {S : Type 0} (p : Params) (catalogue : Catalogue) (orders : List Order)
    (disk_at : ℕ → DiskState) (added : Additions) (h : History Msg S) : Type 0 where
  pub pieces : ArePiecesRight p (facts_of p orders h) (pieces_beside p added h)
  pub stored : AreStored p catalogue (facts_of p orders h)
  pub reads : AreReadsTrue p catalogue (blocks_of p h disk_at)

abbrev pub IsRightlyRead : {S : Type 0} → Params → Catalogue → List Order → (ℕ → DiskState)
    → History Msg S → Type 0
IsRightlyRead p catalogue orders disk_at h =
    IsRightlyReadWith p catalogue orders disk_at nothing_added h

abbrev pub HistoriesAreRightlyRead : (S : Type 0) → Type 0
HistoriesAreRightlyRead S =
    (step : S → Input Msg → Deed Msg S) (p : Params) (catalogue : Catalogue) (orders : List Order)
    (disk_at : ℕ → DiskState) (h : History Msg S)
    → IsPlan p → IsFiledHistory step p catalogue orders disk_at h
    → IsRightlyRead p catalogue orders disk_at h

-- And each settled block is served, or there is an excuse, up to a beat that every node has come to
-- that is up.
abbrev pub HistoriesServeTheirBlocks : (S : Type 0) → Type 0
HistoriesServeTheirBlocks S =
    (step : S → Input Msg → Deed Msg S) (p : Params) (catalogue : Catalogue) (orders : List Order)
    (disk_at : ℕ → DiskState) (h : History Msg S) (end : ℕ)
    → IsPlan p → IsFiledHistory step p catalogue orders disk_at h → IsUpTo p end h
    → AreBlocksServed p (facts_of p orders h) (pieces_of p h) (blocks_of p h disk_at) end

-- ---- whatever is added

-- One schedule there is whatever cubs add.
abbrev pub AddingHistoriesHaveOneSchedule : (S : Type 0) → Type 0
AddingHistoriesHaveOneSchedule S =
    (step : S → Input Msg → Deed Msg S) (p : Params) (orders : List Order)
    (disk_at : ℕ → DiskState) (added : Additions) (h : History Msg S)
    → IsPlan p → IsRingWith step p orders disk_at added h → IsOneSchedule p (facts_of p orders h)

-- And if it is rightly added, all else holds too.
abbrev pub AddingHistoriesMeetTheLaws : (S : Type 0) → Type 0
AddingHistoriesMeetTheLaws S =
    (step : S → Input Msg → Deed Msg S) (p : Params) (catalogue : Catalogue) (orders : List Order)
    (disk_at : ℕ → DiskState) (added : Additions) (h : History Msg S)
    → IsPlan p → IsFiledWith step p catalogue orders disk_at added h
    → IsRightlyAdded p orders added h
    → MeetsLawsWith p catalogue orders disk_at added h

abbrev pub AddingHistoriesAreRightlyRead : (S : Type 0) → Type 0
AddingHistoriesAreRightlyRead S =
    (step : S → Input Msg → Deed Msg S) (p : Params) (catalogue : Catalogue) (orders : List Order)
    (disk_at : ℕ → DiskState) (added : Additions) (h : History Msg S)
    → IsPlan p → IsFiledWith step p catalogue orders disk_at added h
    → IsRightlyAdded p orders added h
    → IsRightlyReadWith p catalogue orders disk_at added h

abbrev pub AddingHistoriesServeTheirBlocks : (S : Type 0) → Type 0
AddingHistoriesServeTheirBlocks S =
    (step : S → Input Msg → Deed Msg S) (p : Params) (catalogue : Catalogue) (orders : List Order)
    (disk_at : ℕ → DiskState) (added : Additions) (h : History Msg S) (end : ℕ)
    → IsPlan p → IsFiledWith step p catalogue orders disk_at added h
    → IsRightlyAdded p orders added h → IsUpTo p end h
    → AreBlocksServed p (facts_of p orders h) (pieces_beside p added h) (blocks_of p h disk_at) end
