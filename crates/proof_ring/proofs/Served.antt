-- In a ring's history the viewers are rightly served, whatever its cubs add if it is rightly added.
use Rattle.std.proofs.Common.{ℕ, List, arith, ⊎_elim}
use Rattle.tiger_base.specs.declared.message.Msg.{Msg}
use Rattle.slot_plan.specs.declared.params.Params.{Params}
use Rattle.stripe_layout.specs.declared.catalogue.Catalogue.{Catalogue}
use Rattle.node_kit.specs.declared.course.Order.{Order}
use Rattle.node_kit.specs.declared.course.ReadFault.{ReadFault}
use Rattle.node_kit.specs.declared.journal.Entry.{Entry}
use Rattle.node_kit.specs.Steps.{Deed, Input}
use Rattle.run_facts.specs.Histories.{History}
use Rattle.disk_core.specs.State.{DiskState}
use Rattle.ring_nodes.specs.declared.nodes.AnyNode.{AnyNode}
use Rattle.ring_nodes.specs.AllNodes.{any_step}
use Rattle.proof_moments.proofs.Truths.{nobody_comes_back}
use Rattle.proof_pieces.specs.PieceFacts.{NothingIsSpared}
use Rattle.proof_moments.specs.RecordedParcels.{Evidence, AreParcelsRecorded}
use Rattle.proof_moments.proofs.Failures.{failures_are_true}
use Rattle.proof_moments.proofs.Served.{are_served}
use Rattle.proof_moments.proofs.Turns.{are_in_turn}
use Rattle.proof_moments.proofs.Visits.{asks_once, in_time, served_once, visits_of_one}
use Rattle.proof_facts.specs.Beside.{Additions, nothing_added}
use Rattle.proof_facts.specs.Facts.{facts_of, pieces_beside, pieces_of, blocks_of}
use Rattle.proof_facts.specs.Rings.{IsUpTo}
use Rattle.proof_ring.proofs.CubLives.{rings_are_histories}
use Rattle.proof_ring.proofs.Histories.{adding_histories_are_rightly_read, adding_histories_serve_their_blocks, nothing_right}
use Rattle.proof_parcels.proofs.Tied.{parcels_are_tied}
use Rattle.proof_ring.specs.ClaimsOfHistories.{IsStoredWith, AddingRingsAreRecorded, AddingRingsAreRightlyServed, AddingRingsAreSoundlyServed}
use Rattle.proof_ring.specs.ClaimsOfRings.{IsStoredRing, RingsAreNeverWronglyServed, RingsAreRightlyServed}
use Rattle.proof_ring.proofs.Recorded as recorded

module _ {S : Type 0} (step : S → Input Msg → Deed Msg S) (p : Params) (catalogue : Catalogue) (faults : List ReadFault) (orders : List Order)
    (disk_at : ℕ → DiskState) (added : Additions) (h : History Msg S) (journals : List (List Entry))
    (k : IsStoredWith step p catalogue faults orders disk_at added h journals) where
  abbrev pub evidence : Evidence
  evidence = record { catalogue = catalogue; faults = faults; orders = orders; journals = journals }

  -- All that is known of its blocks and pieces, up to a beat to which the history goes.
  pub parcels : (end : ℕ) → IsUpTo p end h
      → AreParcelsRecorded p evidence (facts_of p orders h) (pieces_beside p added h) (blocks_of p h disk_at) end
  parcels end up =
      let read = adding_histories_are_rightly_read S step p catalogue orders disk_at added h k.plan k.filed k.right in
      record {
        schedule = recorded.recorded step p orders disk_at added h journals k.plan k.filed.ring k.written;
        pieces = read.pieces;
        blocks = adding_histories_serve_their_blocks S step p catalogue orders disk_at added h end k.plan k.filed k.right up;
        reads = read.reads;
        ties = parcels_are_tied S step p evidence disk_at added h end
            (record { plan = k.plan; ring = k.filed.ring; journals = k.written; images = k.filed.images; faults = k.faulty; until = up })
            read.pieces;
      }

  -- Each history goes up to beat 0.
  pub from_the_start : IsUpTo p 0 h
  from_the_start = record { until = λ n inside alive. omega arith }

pub adding_rings_are_recorded : (S : Type 0) → AddingRingsAreRecorded S
adding_rings_are_recorded S step p catalogue faults orders disk_at added h journals end k up =
    parcels step p catalogue faults orders disk_at added h journals k end up

pub adding_rings_are_soundly_served : (S : Type 0) → AddingRingsAreSoundlyServed S
adding_rings_are_soundly_served S step p catalogue faults orders disk_at added h journals beats k =
    let a : Evidence = evidence step p catalogue faults orders disk_at added h journals k in
    let r = facts_of p orders h in
    let q = pieces_beside p added h in
    let w = blocks_of p h disk_at in
    let all = parcels step p catalogue faults orders disk_at added h journals k 0
    (from_the_start step p catalogue faults orders disk_at added h journals k) in
    record {
      return = nobody_comes_back p r orders journals beats all.schedule (in_time p a r q w 0 all);
      instance = visits_of_one p a r q w 0 all beats;
      ask = asks_once p a r q w 0 all beats;
      fault = failures_are_true p a r q w 0 all beats;
      turn = are_in_turn p a r q w 0 all beats;
    }

pub adding_rings_are_rightly_served : (S : Type 0) → AddingRingsAreRightlyServed S
adding_rings_are_rightly_served S step p catalogue faults orders disk_at added h journals end beats k up low =
    let a : Evidence = evidence step p catalogue faults orders disk_at added h journals k in
    are_served p a (facts_of p orders h) (pieces_beside p added h) (blocks_of p h disk_at) end
    (parcels step p catalogue faults orders disk_at added h journals k end up) beats low

-- ---- where nothing is added

module _ (G : Type 0) (p : Params) (catalogue : Catalogue) (faults : List ReadFault) (orders : List Order) (disk_at : ℕ → DiskState)
    (h : History Msg (AnyNode G)) (journals : List (List Entry)) (k : IsStoredRing p catalogue faults orders disk_at h journals) where
  as_stored : IsStoredWith any_step p catalogue faults orders disk_at nothing_added h journals
  as_stored = record {
    plan = k.plan;
    filed = record { ring = rings_are_histories G p orders disk_at h k.plan k.ring; files = k.files; images = k.images };
    right = nothing_right p orders h;
    written = k.written;
    faulty = k.faulty;
  }

pub rings_are_never_wrongly_served : (G : Type 0) → RingsAreNeverWronglyServed G
rings_are_never_wrongly_served G p catalogue faults orders disk_at h journals beats k =
    let s = as_stored G p catalogue faults orders disk_at h journals k in
    let a : Evidence = evidence any_step p catalogue faults orders disk_at nothing_added h journals s in
    let all = parcels any_step p catalogue faults orders disk_at nothing_added h journals s 0
    (from_the_start any_step p catalogue faults orders disk_at nothing_added h journals s) in
    let sound = adding_rings_are_soundly_served (AnyNode G) any_step p catalogue faults orders disk_at nothing_added h journals beats s in
    let none : NothingIsSpared (pieces_of p h) = λ c t n b w. ⊎_elim
    (λ v. ⊎_elim (λ u. u) (λ u. u) v)
    (λ v. v.did)
    w in
    record {
      return = sound.return;
      once = served_once p a (facts_of p orders h) (pieces_of p h) (blocks_of p h disk_at) 0 all beats none;
      fault = sound.fault;
      turn = sound.turn;
    }

pub rings_are_rightly_served : (G : Type 0) → RingsAreRightlyServed G
rings_are_rightly_served G p catalogue faults orders disk_at h journals end beats k up low =
    adding_rings_are_rightly_served (AnyNode G) any_step p catalogue faults orders disk_at nothing_added h journals end beats
    (as_stored G p catalogue faults orders disk_at h journals k) up low
