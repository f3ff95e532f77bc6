-- What is claimed of every history of a ring with its journals, whatever its nodes are and whatever its cubs add.
use Rattle.std.specs.Prelude.{ℕ, ◌+◌, ◌≤◌, List}
use Rattle.std.specs.List.{AllByRecursion}
use Rattle.tiger_base.specs.declared.message.Msg.{Msg}
use Rattle.slot_plan.specs.declared.params.Params.{Params}
use Rattle.slot_plan.specs.Conditions.{IsPlan}
use Rattle.slot_plan.specs.Times.{time_of}
use Rattle.stripe_layout.specs.declared.catalogue.Catalogue.{Catalogue}
use Rattle.node_kit.specs.declared.course.Order.{Order}
use Rattle.node_kit.specs.declared.course.ReadFault.{ReadFault}
use Rattle.node_kit.specs.declared.journal.Entry.{Entry}
use Rattle.node_kit.specs.Steps.{Deed, Input}
use Rattle.run_facts.specs.Histories.{History}
use Rattle.run_facts.specs.Order.{Noted, order_of}
use Rattle.run_claims.specs.Deliveries.{sent_in}
use Rattle.run_claims.specs.Returns.{NobodyComesBack}
use Rattle.run_claims.specs.Served.{AreServed}
use Rattle.run_claims.specs.Truths.{FailuresAreTrue}
use Rattle.run_claims.specs.Turns.{AreInTurn}
use Rattle.run_claims.specs.Visits.{AreOfOne, IsOnlyAsk}
use Rattle.disk_core.specs.State.{DiskState}
use Rattle.proof_moments.specs.RecordedParcels.{AreParcelsRecorded}
use Rattle.proof_moments.specs.Ties.{IsTickBelow}
use Rattle.proof_journals.specs.Journals.{AreJournalsOf}
use Rattle.proof_facts.specs.Beside.{Additions}
use Rattle.proof_facts.specs.Facts.{blocks_of, facts_of, pieces_beside}
use Rattle.proof_facts.specs.Rings.{IsRingWith, IsUpTo}
use Rattle.proof_parcels.specs.Parcels.{HaveFaults}
use Rattle.proof_ring.specs.ClaimsOfRings.{HasOneSchedule}
use Rattle.proof_ring.specs.Histories.{IsFiledWith, IsRightlyAdded}

-- Whatever cubs add, at the moments of the journals there is one schedule.
abbrev pub AddingRingsHaveOneSchedule : (S : Type 0) → Type 0
AddingRingsHaveOneSchedule S =
    (step : S → Input Msg → Deed Msg S) (p : Params) (orders : List Order)
    (disk_at : ℕ → DiskState) (added : Additions) (h : History Msg S)
    (journals : List (List Entry)) (beats : ℕ)
    → IsPlan p → IsRingWith step p orders disk_at added h → AreJournalsOf step p h journals
    → HasOneSchedule p orders (IsTickBelow (facts_of p orders h) beats) (order_of beats journals)

-- A ring's history over a catalogue, with its journals. What its cubs add is rightly added, and its disks
-- have these read faults.
pub record IsStoredWith {S : Type 0} (step : S → Input Msg → Deed Msg S) (p : Params)
    (catalogue : Catalogue) (faults : List ReadFault) (orders : List Order) (disk_at : ℕ → DiskState)
    (added : Additions) (h : History Msg S) (journals : List (List Entry)) : Type 0 where
  pub plan : IsPlan p
  pub filed : IsFiledWith step p catalogue orders disk_at added h
  pub right : IsRightlyAdded p orders added h
  pub written : AreJournalsOf step p h journals
  pub faulty : HaveFaults p faults disk_at

-- Its journals are a record of its facts, of which the blocks are served but for the excuses of a run in
-- which cubs may die.
abbrev pub AddingRingsAreRecorded : (S : Type 0) → Type 0
AddingRingsAreRecorded S =
    (step : S → Input Msg → Deed Msg S) (p : Params) (catalogue : Catalogue)
    (faults : List ReadFault) (orders : List Order) (disk_at : ℕ → DiskState) (added : Additions)
    (h : History Msg S) (journals : List (List Entry)) (end : ℕ)
    → IsStoredWith step p catalogue faults orders disk_at added h journals → IsUpTo p end h
    → AreParcelsRecorded p
    (record { catalogue = catalogue; faults = faults; orders = orders; journals = journals })
    (facts_of p orders h) (pieces_beside p added h) (blocks_of p h disk_at) end

-- Nobody is wrongly served in a log, in which pieces may be asked for though the block's cub lives.
pub record IsSoundlyServed (p : Params) (faults : List ReadFault) (log : List Noted) : Type 0 where
  -- No stopped instance comes back.
  pub return : NobodyComesBack p log
  -- What leaves for the viewers of one slot and visit is of one instance.
  pub instance : AllByRecursion (λ a. AllByRecursion (AreOfOne a) (sent_in log)) (sent_in log)
  -- Each read is asked for once.
  pub ask : AllByRecursion (λ x. IsOnlyAsk log x.entry.what) log
  -- A read that is reported to have failed met a fault of its disk.
  pub fault : FailuresAreTrue p faults log
  -- The blocks of a viewer come in order.
  pub turn : AreInTurn p log

abbrev pub AddingRingsAreSoundlyServed : (S : Type 0) → Type 0
AddingRingsAreSoundlyServed S =
    (step : S → Input Msg → Deed Msg S) (p : Params) (catalogue : Catalogue)
    (faults : List ReadFault) (orders : List Order) (disk_at : ℕ → DiskState) (added : Additions)
    (h : History Msg S) (journals : List (List Entry)) (beats : ℕ)
    → IsStoredWith step p catalogue faults orders disk_at added h journals
    → IsSoundlyServed p faults (order_of beats journals)

-- And each settled block of each viewer that was put came or is excused, and nothing else came, if each
-- node that is up has ended each beat below the end.
abbrev pub AddingRingsAreRightlyServed : (S : Type 0) → Type 0
AddingRingsAreRightlyServed S =
    (step : S → Input Msg → Deed Msg S) (p : Params) (catalogue : Catalogue)
    (faults : List ReadFault) (orders : List Order) (disk_at : ℕ → DiskState) (added : Additions)
    (h : History Msg S) (journals : List (List Entry)) (end beats : ℕ)
    → IsStoredWith step p catalogue faults orders disk_at added h journals
    → IsUpTo p end h → beats ≤ end + 1
    → AreServed p catalogue journals (time_of p beats) (order_of beats journals)
