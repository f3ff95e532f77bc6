-- Facts of a run whose blocks are served, with journals that tell them.
use Rattle.std.specs.Prelude.{ℕ, List}
use Rattle.tiger_base.specs.declared.tenancy.Tenancy.{Tenancy}
use Rattle.slot_plan.specs.declared.params.Params.{Params}
use Rattle.stripe_layout.specs.declared.catalogue.Catalogue.{Catalogue}
use Rattle.node_kit.specs.declared.course.Order.{Order}
use Rattle.node_kit.specs.declared.course.ReadFault.{ReadFault}
use Rattle.node_kit.specs.declared.journal.Entry.{Entry}
use Rattle.proof_schedule.specs.Facts.{Facts}
use Rattle.proof_pieces.specs.PieceFacts.{PieceFacts}
use Rattle.proof_pieces.specs.Pieces.{ArePiecesRight}
use Rattle.proof_service.specs.Blocks.{AreServedBut, IsExcused}
use Rattle.proof_service.specs.ServiceFacts.{ServiceFacts}
use Rattle.proof_service.specs.Disks.{AreReadsTrue}
use Rattle.proof_moments.specs.Recorded.{IsRecorded}
use Rattle.proof_moments.specs.ParcelTies.{TellsParcels, LogsParcels, KeepsParcels, DisksTell, ViewersGet}

-- What a run is judged by, beside its facts: the catalogue, the read faults, the orders, and one
-- journal for each node.
pub record Evidence : Type 0 where
  pub catalogue : Catalogue
  pub faults : List ReadFault
  pub orders : List Order
  pub journals : List (List Entry)

-- The journals tell the facts on blocks and pieces, up to beat end.
pub record TiesParcels (p : Params) (a : Evidence) (q : PieceFacts) (w : ServiceFacts)
    (end : ℕ) : Type 0 where
  -- Each entry tells a fact.
  pub tells : TellsParcels p q w a.journals
  -- Each fact has its entry.
  pub logs : LogsParcels q w a.journals
  -- No two entries tell one fact.
  pub keeps : KeepsParcels a.journals
  -- The disks' journals tell why reads failed.
  pub disks : DisksTell p a.catalogue a.faults w a.journals
  -- The viewers got what was sent to them.
  pub viewers : ViewersGet p a.journals end

-- The facts of a plan are one schedule, its pieces are right and its blocks are served up to beat
-- end, but for what is excused; and these journals are a record of all that.
pub record AreParcelsRecordedBut (p : Params) (a : Evidence) (r : Facts) (q : PieceFacts)
    (w : ServiceFacts) (end : ℕ) (Excused : Tenancy → ℕ → Type 0) : Type 0 where
  pub schedule : IsRecorded p r a.orders a.journals
  pub pieces : ArePiecesRight p r q
  pub blocks : AreServedBut p r q end Excused
  pub reads : AreReadsTrue p a.catalogue w
  pub ties : TiesParcels p a q w end

-- The excuses are those of a run in which cubs may die.
abbrev pub AreParcelsRecorded : Params → Evidence → Facts → PieceFacts → ServiceFacts → ℕ → Type 0
AreParcelsRecorded p a r q w end = AreParcelsRecordedBut p a r q w end (IsExcused p r w end)
