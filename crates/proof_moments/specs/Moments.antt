-- What is true of the order of all entries of recorded facts, moment by moment.
use Rattle.std.specs.Prelude.{ℕ, List}
use Rattle.slot_plan.specs.declared.params.Params.{Params}
use Rattle.node_kit.specs.declared.course.Order.{Order}
use Rattle.node_kit.specs.declared.journal.Entry.{Entry}
use Rattle.run_facts.specs.Order.{order_of}
use Rattle.run_model.specs.Orders.{PutsAreFair}
use Rattle.run_model.specs.Parts.{ViewsAreAlwaysPart, EntriesAreLocal}
use Rattle.run_claims.specs.Patience.{NobodyIsPassedOver}
use Rattle.run_claims.specs.Returns.{NobodyComesBack}
use Rattle.run_claims.specs.Truths.{BeliefsAreTrue}
use Rattle.proof_schedule.specs.Logs.{Fact, facts_in}
use Rattle.proof_moments.specs.Ties.{IsTickBelow, Locals}
use Rattle.proof_moments.specs.Recorded.{IsRecorded, ParcelsAreInTime}

-- Each Put finds its slot free at the moment before it, and is rightly put, by whichever cub.
abbrev pub RecordedPutsAreFair : Type 0
RecordedPutsAreFair =
    (p : Params) (log : List Fact) (orders : List Order) (journals : List (List Entry)) (beats : ℕ)
    → IsRecorded p (facts_in log) orders journals → PutsAreFair p orders (order_of beats journals)

-- Each cub that an entry says is believed dead died before it.
abbrev pub RecordedBeliefsAreTrue : Type 0
RecordedBeliefsAreTrue =
    (p : Params) (log : List Fact) (orders : List Order) (journals : List (List Entry)) (beats : ℕ)
    → IsRecorded p (facts_in log) orders journals → BeliefsAreTrue (order_of beats journals)

-- No instance comes back after its stop, if what goes to its viewers is in time.
abbrev pub NoInstanceReturns : Type 0
NoInstanceReturns =
    (p : Params) (log : List Fact) (orders : List Order) (journals : List (List Entry)) (beats : ℕ)
    → IsRecorded p (facts_in log) orders journals → ParcelsAreInTime p (facts_in log) journals
    → NobodyComesBack p (order_of beats journals)

-- At every moment each record of each view is part of the schedule.
abbrev pub RecordedViewsArePart : Type 0
RecordedViewsArePart =
    (p : Params) (log : List Fact) (orders : List Order) (journals : List (List Entry)) (beats : ℕ)
    → IsRecorded p (facts_in log) orders journals → ViewsAreAlwaysPart p (order_of beats journals)

-- No start is passed over at the end of each tick of a cub.
abbrev pub NoStartIsPassedOver : Type 0
NoStartIsPassedOver =
    (p : Params) (log : List Fact) (orders : List Order) (journals : List (List Entry)) (beats : ℕ)
    → IsRecorded p (facts_in log) orders journals
    → NobodyIsPassedOver p orders (IsTickBelow (facts_in log) beats) (order_of beats journals)

-- What a cub takes and which viewer states it sends follows from what it has.
abbrev pub RecordedEntriesAreLocal : Type 0
RecordedEntriesAreLocal =
    (p : Params) (log : List Fact) (orders : List Order) (journals : List (List Entry)) (beats : ℕ)
    → IsRecorded p (facts_in log) orders journals → Locals p journals
    → EntriesAreLocal p (order_of beats journals)
