-- What is kept of a run of a scenario in which disks may die, and no cub does, over its library, and what holds of it.
use Rattle.std.specs.Prelude.{◌≡◌, ℕ, List, None}
use Rattle.std.specs.List.{AllByRecursion}
use Rattle.tiger_base.specs.declared.message.Msg.{Msg}
use Rattle.tiger_base.specs.Notes.{noted}
use Rattle.stripe_layout.specs.declared.catalogue.Catalogue.{Catalogue}
use Rattle.node_kit.specs.declared.course.Course.{Course}
use Rattle.node_kit.specs.declared.course.Kept.{Kept}
use Rattle.node_kit.specs.declared.course.Order.{Order}
use Rattle.node_kit.specs.declared.journal.Entry.{Entry}
use Rattle.node_kit.specs.Life.{lifetime_of}
use Rattle.run_facts.specs.Carried.{AreCarried}
use Rattle.run_facts.specs.Kept.{HaveKept}
use Rattle.run_facts.specs.Paced.{ArePaced}
use Rattle.run_facts.specs.Timed.{AreTimed}
use Rattle.scenario_read.specs.declared.scenario.Scenario.{Scenario}
use Rattle.scenario_read.specs.Orders.{IsCatalogueOf, orders_from}
use Rattle.run_report.specs.Outcomes.{outcomes_of}
use Rattle.run_report.specs.Digests.{digests_of}
use Rattle.ring_nodes.specs.AllNodes.{images_of}
use Rattle.spare_ring.specs.declared.nodes.SpareNode.{SpareNode}
use Rattle.spare_ring.specs.Nodes.{spare_node_step, spare_nodes}

-- no cub dies in a course
abbrev pub NoCubDies : Course → Type 0
NoCubDies course = AllByRecursion (λ death. death ≡ None) course.deaths

-- the nodes of a course as they open: each cub knows of its disks' deaths, each disk has its image of the library, and the
-- controller has the orders
abbrev pub spare_ring_of : (G : Type 0) → Course → Catalogue → List (List ℕ) → List Order → List (SpareNode G)
spare_ring_of G course catalogue library orders =
    spare_nodes course.plan.params course.faults course.beats (images_of course.plan.params catalogue library) orders

-- The nodes of a course lived, each by its own steps, through a history that keeps the course, and these are their journals,
-- one of each node.
pub record HasSpareRun (G : Type 0) (course : Course) (catalogue : Catalogue) (library : List (List ℕ)) (orders : List Order) (journals : List (List Entry)) : Type 0 where
  pub nodes : List (SpareNode G)
  pub kept : HaveKept {M = Msg} noted (spare_node_step {G = G}) course (spare_ring_of G course catalogue library orders) nodes journals

-- What is kept of such a run: its course, in which no cub dies, catalogue and orders, the journals of the nodes that ran for
-- them, and a digest of what the viewers got of each start.
pub record IsSpareRun (G : Type 0) (s : Scenario) (library : List (List ℕ)) (k : Kept) : Type 0 where
  pub course : k.course ≡ s.course
  pub calm : NoCubDies k.course
  pub catalogue : IsCatalogueOf s library k.catalogue
  pub orders : k.orders ≡ orders_from k.catalogue 0 s.events
  pub steps : HasSpareRun G k.course k.catalogue library k.orders k.journals
  pub carried : AreCarried k.course.plan.params k.course.beats (lifetime_of k.course) k.journals
  pub paced : ArePaced k.course k.journals
  pub timed : AreTimed k.course.plan.params k.course.beats (lifetime_of k.course) k.journals
  pub digests : k.digests ≡ digests_of library (outcomes_of k.course k.catalogue k.orders k.journals)
