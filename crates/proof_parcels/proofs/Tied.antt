-- The journals of a ring tell of its blocks and pieces.
use Rattle.std.specs.Prelude.{ℕ}
use Rattle.tiger_base.specs.declared.message.Msg.{Msg}
use Rattle.slot_plan.specs.declared.params.Params.{Params}
use Rattle.node_kit.specs.Steps.{Deed, Input}
use Rattle.run_facts.specs.Histories.{History}
use Rattle.disk_core.specs.State.{DiskState}
use Rattle.proof_schedule.specs.Facts.{Facts}
use Rattle.proof_pieces.specs.Pieces.{ArePiecesRight}
use Rattle.proof_facts.specs.Beside.{Additions}
use Rattle.proof_facts.specs.Facts.{blocks_of, pieces_beside}
use Rattle.proof_moments.specs.RecordedParcels.{Evidence, TiesParcels}
use Rattle.proof_journals.proofs.Events.{AreKept}
use Rattle.proof_parcels.specs.Parcels.{IsRingOf, ParcelsAreTied}
use Rattle.proof_parcels.proofs.Disks as disks
use Rattle.proof_parcels.proofs.Keeping as keeping
use Rattle.proof_parcels.proofs.Telling as telling
use Rattle.proof_parcels.proofs.Viewing as viewing

-- Whatever else is known of the ring, if its pieces are right.
pub ties : {S : Type 0} (step : S → Input Msg → Deed Msg S) (p : Params) (a : Evidence) (disk_at : ℕ → DiskState)
    (added : Additions) (h : History Msg S) (end : ℕ) → IsRingOf step p a disk_at added h end
    → {r : Facts} → ArePiecesRight p r (pieces_beside p added h) → TiesParcels p a (pieces_beside p added h) (blocks_of p h disk_at) end
ties step p a disk_at added h end ring right =
    let kept : AreKept step p a.orders disk_at added h a.journals = record {
      plan = ring.plan;
      ring = ring.ring;
      are =
          ring.journals;
    } in
    record {
      tells = telling.tells kept;
      logs = telling.logs kept;
      keeps = keeping.keeps kept right;
      disks = disks.tell kept a.catalogue a.faults ring.images ring.faults;
      viewers = viewing.get kept end ring.until;
    }

pub parcels_are_tied : (S : Type 0) → ParcelsAreTied S
parcels_are_tied S step p a disk_at added h end ring right = ties step p a disk_at added h end ring right
