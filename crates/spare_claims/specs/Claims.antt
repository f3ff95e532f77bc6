-- What is claimed of a run in which disks may die, of which the cubs know, and no cub does.
use Rattle.std.specs.Prelude.{List}
use Rattle.std.specs.List.{AllByRecursion}
use Rattle.slot_plan.specs.declared.params.Params.{Params}
use Rattle.run_facts.specs.Order.{Noted}
use Rattle.run_claims.specs.Accounts.{Account, log_of, end_of}
use Rattle.run_claims.specs.Claims.{FreePuts, PartViews, NoReturn, TrueBelief, TrueFaults, VisitsInOrder, FairStarts}
use Rattle.run_claims.specs.Deliveries.{sent_in}
use Rattle.run_claims.specs.Visits.{AreOfOne, IsOnlyAsk}
use Rattle.spare_claims.specs.Delivery.{AreSpareServed, disk_deaths}

-- Over a log: what leaves for the viewers of one slot and visit is of one instance; each piece of each visit, and each whole
-- block, is asked of a disk at most once. Pieces are asked for though the block's cub lives.
pub record AreAskedOnce (p : Params) (log : List Noted) : Type 0 where
  pub instance : AllByRecursion (λ a. AllByRecursion (AreOfOne a) (sent_in log)) (sent_in log)
  pub ask : AllByRecursion (λ x. IsOnlyAsk log x.entry.what) log

-- each settled block of each viewer that was put came or is excused by its disk or a stop, and nothing else came
abbrev pub SpareDelivery : Account → Type 0
SpareDelivery a = AreSpareServed a.plan a.catalogue a.journals (disk_deaths a.faults a.beats) (end_of a) (log_of a)

-- all claims: those of any run, but that pieces come only after a cub's death, and that delivery has these excuses
pub record MeetsSpareClaims (a : Account) : Type 0 where
  pub free : FreePuts a
  pub part : PartViews a
  pub no_return : NoReturn a
  pub asked_once : AreAskedOnce a.plan (log_of a)
  pub true_belief : TrueBelief a
  pub true_faults : TrueFaults a
  pub delivery : SpareDelivery a
  pub in_order : VisitsInOrder a
  pub starts : FairStarts a
