-- The nine claims of a run, and all of them together.
use Rattle.run_facts.specs.Commanded.{AreCommanded}
use Rattle.run_model.specs.Orders.{PutsAreFair}
use Rattle.run_model.specs.Parts.{ViewsAreAlwaysPart, EntriesAreLocal}
use Rattle.run_claims.specs.Accounts.{Account, log_of, end_of}
use Rattle.run_claims.specs.Returns.{NobodyComesBack}
use Rattle.run_claims.specs.Visits.{AreServedOnce}
use Rattle.run_claims.specs.Truths.{BeliefsAreTrue, FailuresAreTrue}
use Rattle.run_claims.specs.Served.{AreServed}
use Rattle.run_claims.specs.Turns.{AreInTurn}
use Rattle.run_claims.specs.Patience.{NobodyIsPassedOver}

-- 1: each Put finds its slot free from its first visit on, and is rightly put
abbrev pub FreePuts : Account → Type 0
FreePuts a = PutsAreFair a.plan a.orders (log_of a)

-- 2: at every moment each cub's view is part of the schedule, and what a cub takes and passes on follows from what it has
pub record PartViews (a : Account) : Type 0 where
  pub always : ViewsAreAlwaysPart a.plan (log_of a)
  pub local : EntriesAreLocal a.plan (log_of a)

-- 3: no stopped instance comes back
abbrev pub NoReturn : Account → Type 0
NoReturn a = NobodyComesBack a.plan (log_of a)

-- 4: a visit of a slot is of one instance, and each read is asked for once
abbrev pub OnePerVisit : Account → Type 0
OnePerVisit a = AreServedOnce a.plan (log_of a)

-- 5: a cub that is believed dead has died
abbrev pub TrueBelief : Account → Type 0
TrueBelief a = BeliefsAreTrue (log_of a)

-- 6: a read that is reported to have failed met a fault of its disk
abbrev pub TrueFaults : Account → Type 0
TrueFaults a = FailuresAreTrue a.plan a.faults (log_of a)

-- 7: each settled block of each viewer that was put came or is excused, and nothing else came
abbrev pub FullDelivery : Account → Type 0
FullDelivery a = AreServed a.plan a.catalogue a.journals (end_of a) (log_of a)

-- 8: the blocks of a viewer come in order
abbrev pub VisitsInOrder : Account → Type 0
VisitsInOrder a = AreInTurn a.plan (log_of a)

-- 9: no start is passed over, and the controller's journal follows the orders
pub record FairStarts (a : Account) : Type 0 where
  pub patient : NobodyIsPassedOver a.plan a.orders a.ticked (log_of a)
  pub commanded : AreCommanded a.plan a.commands a.clock a.orders a.journals

-- all nine
pub record MeetsClaims (a : Account) : Type 0 where
  pub free : FreePuts a
  pub part : PartViews a
  pub no_return : NoReturn a
  pub one_per_visit : OnePerVisit a
  pub true_belief : TrueBelief a
  pub true_faults : TrueFaults a
  pub delivery : FullDelivery a
  pub in_order : VisitsInOrder a
  pub starts : FairStarts a
