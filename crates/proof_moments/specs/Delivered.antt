-- What is true of the order of all entries if blocks are served and journals tell it.
use Rattle.std.specs.Prelude.{ℕ, ◌+◌, ◌≤◌, List}
use Rattle.slot_plan.specs.declared.params.Params.{Params}
use Rattle.slot_plan.specs.Times.{time_of}
use Rattle.run_facts.specs.Order.{order_of}
use Rattle.run_claims.specs.Visits.{AreServedOnce}
use Rattle.run_claims.specs.Truths.{FailuresAreTrue}
use Rattle.run_claims.specs.Served.{AreServed}
use Rattle.run_claims.specs.Turns.{AreInTurn}
use Rattle.proof_schedule.specs.Logs.{Fact, facts_in}
use Rattle.proof_pieces.specs.PieceFacts.{NothingIsSpared}
use Rattle.proof_pieces.specs.PieceLogs.{PieceFact, pieces_in}
use Rattle.proof_service.specs.ServiceLogs.{ServiceFact, service_in}
use Rattle.proof_moments.specs.Recorded.{ParcelsAreInTime}
use Rattle.proof_moments.specs.RecordedParcels.{Evidence, AreParcelsRecorded}

-- A visit of a slot is of one instance, each read is asked for once, and a piece only after the
-- death of the block's cub, if no cub splits a visit of its own.
abbrev pub RecordedVisitsAreServedOnce : Type 0
RecordedVisitsAreServedOnce =
    (p : Params) (a : Evidence) (log : List Fact) (more : List PieceFact) (rest : List ServiceFact)
    (end beats : ℕ)
    → AreParcelsRecorded p a (facts_in log) (pieces_in more) (service_in rest) end
    → NothingIsSpared (pieces_in more)
    → AreServedOnce p (order_of beats a.journals)

-- A read that is reported to have failed met a fault of its disk.
abbrev pub RecordedFailuresAreTrue : Type 0
RecordedFailuresAreTrue =
    (p : Params) (a : Evidence) (log : List Fact) (more : List PieceFact) (rest : List ServiceFact)
    (end beats : ℕ)
    → AreParcelsRecorded p a (facts_in log) (pieces_in more) (service_in rest) end
    → FailuresAreTrue p a.faults (order_of beats a.journals)

-- Each settled block of each viewer that was put came or is excused, and nothing else came: in a
-- run that is looked at up to the time of a beat which is not behind the next one after the end.
abbrev pub RecordedVisitsAreServed : Type 0
RecordedVisitsAreServed =
    (p : Params) (a : Evidence) (log : List Fact) (more : List PieceFact) (rest : List ServiceFact)
    (end beats : ℕ)
    → beats ≤ end + 1
    → AreParcelsRecorded p a (facts_in log) (pieces_in more) (service_in rest) end
    → AreServed p a.catalogue a.journals (time_of p beats) (order_of beats a.journals)

-- The blocks of a viewer come in order.
abbrev pub RecordedVisitsAreInTurn : Type 0
RecordedVisitsAreInTurn =
    (p : Params) (a : Evidence) (log : List Fact) (more : List PieceFact) (rest : List ServiceFact)
    (end beats : ℕ)
    → AreParcelsRecorded p a (facts_in log) (pieces_in more) (service_in rest) end
    → AreInTurn p (order_of beats a.journals)

-- What is sent to the viewers of an instance after its stop is sent within a block play time.
abbrev pub RecordedParcelsAreInTime : Type 0
RecordedParcelsAreInTime =
    (p : Params) (a : Evidence) (log : List Fact) (more : List PieceFact) (rest : List ServiceFact)
    (end : ℕ)
    → AreParcelsRecorded p a (facts_in log) (pieces_in more) (service_in rest) end
    → ParcelsAreInTime p (facts_in log) a.journals
