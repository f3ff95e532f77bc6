-- What is kept of a run of a scenario over its library, and what holds of it.
use Rattle.std.specs.Prelude.{◌≡◌, ℕ, List}
use Rattle.node_kit.specs.declared.course.Kept.{Kept}
use Rattle.node_kit.specs.Life.{lifetime_of}
use Rattle.run_facts.specs.Carried.{AreCarried}
use Rattle.run_facts.specs.Paced.{ArePaced}
use Rattle.run_facts.specs.Timed.{AreTimed, DieApart}
use Rattle.scenario_read.specs.declared.scenario.Scenario.{Scenario}
use Rattle.scenario_read.specs.Orders.{IsCatalogueOf, orders_from}
use Rattle.run_report.specs.Outcomes.{outcomes_of}
use Rattle.run_report.specs.Digests.{digests_of}
use Rattle.ring_facts.specs.Steps.{HasRun, FollowOrders}

-- What is kept of the run of a scenario over its library: its course, catalogue and orders, the journals of the
-- nodes that ran for them, and a digest of what the viewers got of each start.
pub record IsRingRun (G : Type 0) (s : Scenario) (library : List (List ℕ)) (k : Kept) : Type 0 where
  pub course : k.course ≡ s.course
  pub catalogue : IsCatalogueOf s library k.catalogue
  pub orders : k.orders ≡ orders_from k.catalogue 0 s.events
  pub steps : HasRun G k.course k.catalogue library k.orders k.journals
  pub carried : AreCarried k.course.plan.params k.course.beats (lifetime_of k.course) k.journals
  pub paced : ArePaced k.course k.journals
  pub timed : AreTimed k.course.plan.params k.course.beats (lifetime_of k.course) k.journals
  pub apart : DieApart k.course.plan.params (lifetime_of k.course)
  pub commanded : FollowOrders k.course k.orders k.journals
  pub digests : k.digests ≡ digests_of library (outcomes_of k.course k.catalogue k.orders k.journals)
