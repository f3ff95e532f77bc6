-- The nine claims written out over a kept run, with no account between, so that a claim that says less is refused here.
use Rattle.std.specs.Prelude.{◌↔◌}
use Rattle.slot_plan.specs.Times.{time_of}
use Rattle.node_kit.specs.declared.course.Kept.{Kept}
use Rattle.node_kit.specs.Courses.{reading_of}
use Rattle.node_kit.specs.Links.{links_of, controller_of}
use Rattle.run_facts.specs.Commanded.{AreCommanded}
use Rattle.run_model.specs.Orders.{PutsAreFair}
use Rattle.run_model.specs.Parts.{ViewsAreAlwaysPart, EntriesAreLocal}
use Rattle.run_model.specs.Runs.{order_in, NoneIsPassedOver}
use Rattle.run_claims.specs.Accounts.{account_of}
use Rattle.run_claims.specs.Returns.{NobodyComesBack}
use Rattle.run_claims.specs.Visits.{AreServedOnce}
use Rattle.run_claims.specs.Truths.{BeliefsAreTrue, FailuresAreTrue}
use Rattle.run_claims.specs.Served.{AreServed}
use Rattle.run_claims.specs.Turns.{AreInTurn}
use Rattle.run_claims.specs.Claims.{MeetsClaims}

-- what is claimed of a kept run: nine claims, of which the second and the ninth have two parts
pub record MeetsNine (k : Kept) : Type 0 where
  pub puts : PutsAreFair k.course.plan.params k.orders (order_in k)
  pub views : ViewsAreAlwaysPart k.course.plan.params (order_in k)
  pub entries : EntriesAreLocal k.course.plan.params (order_in k)
  pub returns : NobodyComesBack k.course.plan.params (order_in k)
  pub visits : AreServedOnce k.course.plan.params (order_in k)
  pub beliefs : BeliefsAreTrue (order_in k)
  pub failures : FailuresAreTrue k.course.plan.params k.course.faults (order_in k)
  pub blocks : AreServed k.course.plan.params k.catalogue k.journals
      (time_of k.course.plan.params k.course.beats) (order_in k)
  pub turns : AreInTurn k.course.plan.params (order_in k)
  pub patience : NoneIsPassedOver k
  pub commands : AreCommanded k.course.plan.params k.course.beats
      (reading_of k.course (controller_of (links_of k.course.plan.params))) k.orders k.journals

-- the claims of its account say neither more nor less
abbrev pub ClaimsAreTheNine : Type 0
ClaimsAreTheNine = (k : Kept) → MeetsNine k ↔ MeetsClaims (account_of k)
