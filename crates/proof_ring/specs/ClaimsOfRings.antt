-- What is claimed of every history of a ring in which cubs may die and return: one schedule, and viewers rightly served.
use Rattle.std.specs.Prelude.{ℕ, ◌+◌, ◌≤◌, List}
use Rattle.tiger_base.specs.declared.message.Msg.{Msg}
use Rattle.slot_plan.specs.declared.params.Params.{Params}
use Rattle.slot_plan.specs.Conditions.{IsPlan}
use Rattle.slot_plan.specs.Times.{time_of}
use Rattle.stripe_layout.specs.declared.catalogue.Catalogue.{Catalogue}
use Rattle.node_kit.specs.declared.course.Order.{Order}
use Rattle.node_kit.specs.declared.course.ReadFault.{ReadFault}
use Rattle.node_kit.specs.declared.journal.Entry.{Entry}
use Rattle.run_facts.specs.Histories.{History}
use Rattle.run_facts.specs.Order.{Noted, order_of}
use Rattle.run_model.specs.Orders.{PutsAreFair}
use Rattle.run_model.specs.Parts.{ViewsAreAlwaysPart, EntriesAreLocal}
use Rattle.run_claims.specs.Patience.{NobodyIsPassedOver}
use Rattle.run_claims.specs.Returns.{NobodyComesBack}
use Rattle.run_claims.specs.Served.{AreServed}
use Rattle.run_claims.specs.Truths.{BeliefsAreTrue, FailuresAreTrue}
use Rattle.run_claims.specs.Turns.{AreInTurn}
use Rattle.run_claims.specs.Visits.{AreServedOnce}
use Rattle.disk_core.specs.State.{DiskState}
use Rattle.ring_nodes.specs.declared.nodes.AnyNode.{AnyNode}
use Rattle.ring_nodes.specs.AllNodes.{any_step}
use Rattle.proof_moments.specs.Ties.{IsTickBelow}
use Rattle.proof_journals.specs.Journals.{AreJournalsOf}
use Rattle.proof_facts.specs.Facts.{facts_of}
use Rattle.proof_facts.specs.Rings.{IsUpTo, AreOfCatalogue, HaveImages}
pub use Rattle.proof_parcels.specs.Parcels.{HaveFaults}
use Rattle.proof_ring.specs.Rings.{IsRing}

-- At the moments of a log there is one schedule. Ticked tells which cub ticked in which beat, at
-- which reading.
pub record HasOneSchedule (p : Params) (orders : List Order) (ticked : ℕ → ℕ → ℕ → Type 0)
    (log : List Noted) : Type 0 where
  -- Each Put finds its slot free from its first visit on, and is rightly put.
  pub free : PutsAreFair p orders log
  -- At every moment each record of each view is part of the schedule.
  pub part : ViewsAreAlwaysPart p log
  -- What a cub takes and which viewer states it sends follows from what it has.
  pub local : EntriesAreLocal p log
  -- A cub that is believed dead has died.
  pub belief : BeliefsAreTrue log
  -- No start is passed over at a tick.
  pub patient : NobodyIsPassedOver p orders ticked log

-- So it is in every history of a ring, over the entries of however many beats.
abbrev pub RingsHaveOneSchedule : (G : Type 0) → Type 0
RingsHaveOneSchedule G =
    (p : Params) (orders : List Order) (disk_at : ℕ → DiskState) (h : History Msg (AnyNode G))
    (journals : List (List Entry)) (beats : ℕ)
    → IsPlan p → IsRing p orders disk_at h → AreJournalsOf any_step p h journals
    → HasOneSchedule p orders (IsTickBelow (facts_of p orders h) beats) (order_of beats journals)

-- A ring whose orders are for files of a catalogue, and whose disks have its images and these read
-- faults; with its journals.
pub record IsStoredRing {G : Type 0} (p : Params) (catalogue : Catalogue) (faults : List ReadFault)
    (orders : List Order) (disk_at : ℕ → DiskState) (h : History Msg (AnyNode G))
    (journals : List (List Entry)) : Type 0 where
  pub plan : IsPlan p
  pub ring : IsRing p orders disk_at h
  pub written : AreJournalsOf any_step p h journals
  pub files : AreOfCatalogue p catalogue orders
  pub images : HaveImages p catalogue disk_at
  pub faulty : HaveFaults p faults disk_at

-- Nobody is wrongly served in a log.
pub record IsNeverWronglyServed (p : Params) (faults : List ReadFault)
    (log : List Noted) : Type 0 where
  -- No stopped instance comes back.
  pub return : NobodyComesBack p log
  -- A visit of a slot is of one instance, and each read is asked for once.
  pub once : AreServedOnce p log
  -- A read that is reported to have failed met a fault of its disk.
  pub fault : FailuresAreTrue p faults log
  -- The blocks of a viewer come in order.
  pub turn : AreInTurn p log

-- So it is in every history of such a ring, over the entries of however many beats.
abbrev pub RingsAreNeverWronglyServed : (G : Type 0) → Type 0
RingsAreNeverWronglyServed G =
    (p : Params) (catalogue : Catalogue) (faults : List ReadFault) (orders : List Order)
    (disk_at : ℕ → DiskState) (h : History Msg (AnyNode G)) (journals : List (List Entry))
    (beats : ℕ)
    → IsStoredRing p catalogue faults orders disk_at h journals
    → IsNeverWronglyServed p faults (order_of beats journals)

-- And each settled block of each viewer that was put came or is excused, and nothing else came, if
-- each node that is up has ended each beat below the end.
abbrev pub RingsAreRightlyServed : (G : Type 0) → Type 0
RingsAreRightlyServed G =
    (p : Params) (catalogue : Catalogue) (faults : List ReadFault) (orders : List Order)
    (disk_at : ℕ → DiskState) (h : History Msg (AnyNode G)) (journals : List (List Entry))
    (end beats : ℕ)
    → IsStoredRing p catalogue faults orders disk_at h journals
    → IsUpTo p end h → beats ≤ end + 1
    → AreServed p catalogue journals (time_of p beats) (order_of beats journals)
