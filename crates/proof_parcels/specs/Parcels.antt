-- What it means that the journals of a ring tell of its blocks and pieces, if cubs may put out more
-- than their rules say.
use Rattle.std.specs.Prelude.{◌≡◌, ℕ, ◌<◌, true, List}
use Rattle.tiger_base.specs.declared.message.Msg.{Msg}
use Rattle.slot_plan.specs.declared.params.Params.{Params}
use Rattle.slot_plan.specs.Conditions.{IsPlan}
use Rattle.slot_plan.specs.Times.{disk_count}
use Rattle.node_kit.specs.declared.course.ReadFault.{ReadFault}
use Rattle.node_kit.specs.Steps.{Deed, Input}
use Rattle.run_facts.specs.Histories.{History}
use Rattle.disk_core.specs.State.{DiskState}
use Rattle.disk_core.specs.Rules.{is_faulty}
use Rattle.proof_pieces.specs.Pieces.{ArePiecesRight}
use Rattle.proof_facts.specs.Beside.{Additions}
use Rattle.proof_facts.specs.Facts.{blocks_of, facts_of, pieces_beside}
use Rattle.proof_facts.specs.Rings.{IsRingWith, IsUpTo, HaveImages}
use Rattle.proof_moments.specs.RecordedParcels.{Evidence, TiesParcels}
use Rattle.proof_journals.specs.Journals.{AreJournalsOf}

-- Each read fault that strikes a disk is one of the run's.
abbrev pub HaveFaults : Params → List ReadFault → (ℕ → DiskState) → Type 0
HaveFaults p faults disk_at = (d b : ℕ)
    → d < disk_count p → is_faulty (disk_at d).faults d b ≡ true → is_faulty faults d b ≡ true

-- A ring that has lived through a history up to beat end: its journals are what its nodes wrote,
-- and its disks have the images of the catalogue, and no read faults but those of the run.
pub record IsRingOf {S : Type 0} (step : S → Input Msg → Deed Msg S) (p : Params) (a : Evidence)
    (disk_at : ℕ → DiskState) (added : Additions) (h : History Msg S) (end : ℕ) : Type 0 where
  pub plan : IsPlan p
  pub ring : IsRingWith step p a.orders disk_at added h
  pub journals : AreJournalsOf step p h a.journals
  pub images : HaveImages p a.catalogue disk_at
  pub faults : HaveFaults p a.faults disk_at
  pub until : IsUpTo p end h

-- If the pieces of such a ring are right, its journals tell of its blocks and pieces: each entry
-- tells a fact, each fact has one entry, the disks' journals tell why reads failed, and the viewers
-- got what was sent to them. That pieces are right is used where a want is to be asked for, or sent,
-- once: it does not name its tenancy's last visit, so two tenancies could have the same want.
abbrev pub ParcelsAreTied : (S : Type 0) → Type 0
ParcelsAreTied S =
    (step : S → Input Msg → Deed Msg S) (p : Params) (a : Evidence) (disk_at : ℕ → DiskState)
    (added : Additions) (h : History Msg S) (end : ℕ)
    → IsRingOf step p a disk_at added h end
    → ArePiecesRight p (facts_of p a.orders h) (pieces_beside p added h)
    → TiesParcels p a (pieces_beside p added h) (blocks_of p h disk_at) end
