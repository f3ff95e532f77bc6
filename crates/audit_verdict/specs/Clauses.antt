-- The twelve clauses by which a kept run is judged: their numbers, and when each holds.
use Rattle.std.specs.Prelude.{ℕ}
use Rattle.node_kit.specs.declared.course.Kept.{Kept}
use Rattle.run_model.specs.Runs.{IsCarriedRun, IsTimedRun}
use Rattle.run_claims.specs.Accounts.{account_of}
use Rattle.run_claims.specs.Claims.{FreePuts, PartViews, NoReturn, OnePerVisit, TrueBelief, TrueFaults, FullDelivery, VisitsInOrder, FairStarts, MeetsClaims}
use Rattle.audit_orders.specs.Verdicts.{FollowsOrders}
use Rattle.audit_verdict.specs.Clocks.{ShowsClocks}
use Rattle.audit_verdict.specs.declared.clause.Clause.{Clause}
use Rattle.audit_verdict.specs.declared.clause.Clause.TheVariants as clause

-- the number of a clause
abbrev pub number_of_clause : Clause → ℕ
number_of_clause clause.Carried = 1
number_of_clause clause.Timed = 2
number_of_clause clause.Commanded = 3
number_of_clause clause.FreePuts = 4
number_of_clause clause.PartViews = 5
number_of_clause clause.NoReturn = 6
number_of_clause clause.OnePerVisit = 7
number_of_clause clause.TrueBelief = 8
number_of_clause clause.TrueFaults = 9
number_of_clause clause.FullDelivery = 10
number_of_clause clause.VisitsInOrder = 11
number_of_clause clause.FairStarts = 12

-- a clause holds of a kept run: of the run itself, or of its account as one of the nine claims
abbrev pub MeetsClause : Kept → Clause → Type 0
MeetsClause k clause.Carried = IsCarriedRun k
MeetsClause k clause.Timed = IsTimedRun k × ShowsClocks k
MeetsClause k clause.Commanded = FollowsOrders (account_of k)
MeetsClause k clause.FreePuts = FreePuts (account_of k)
MeetsClause k clause.PartViews = PartViews (account_of k)
MeetsClause k clause.NoReturn = NoReturn (account_of k)
MeetsClause k clause.OnePerVisit = OnePerVisit (account_of k)
MeetsClause k clause.TrueBelief = TrueBelief (account_of k)
MeetsClause k clause.TrueFaults = TrueFaults (account_of k)
MeetsClause k clause.FullDelivery = FullDelivery (account_of k)
MeetsClause k clause.VisitsInOrder = VisitsInOrder (account_of k)
MeetsClause k clause.FairStarts = FairStarts (account_of k)

-- all of them hold: the run is carried, timed by its clocks, and commanded, and meets the nine claims
pub record MeetsAllClauses (k : Kept) : Type 0 where
  pub carried : IsCarriedRun k
  pub timed : IsTimedRun k
  pub clocks : ShowsClocks k
  pub commanded : FollowsOrders (account_of k)
  pub claims : MeetsClaims (account_of k)
