-- How the nodes of a course run, and that they follow the orders.
use Rattle.std.specs.Prelude.{ℕ, List}
use Rattle.tiger_base.specs.declared.message.Msg.{Msg}
use Rattle.tiger_base.specs.Notes.{noted}
use Rattle.stripe_layout.specs.declared.catalogue.Catalogue.{Catalogue}
use Rattle.node_kit.specs.declared.course.Course.{Course}
use Rattle.node_kit.specs.declared.course.Order.{Order}
use Rattle.node_kit.specs.declared.journal.Entry.{Entry}
use Rattle.node_kit.specs.Courses.{reading_of}
use Rattle.node_kit.specs.Links.{links_of, controller_of}
use Rattle.run_facts.specs.Kept.{HaveKept}
use Rattle.run_facts.specs.Commanded.{AreCommanded}
use Rattle.ring_nodes.specs.declared.nodes.AnyNode.{AnyNode}
use Rattle.ring_nodes.specs.AllNodes.{any_step, opening_nodes, images_of}

-- the nodes of a course as they open: each disk has its image of the library, and the controller has the orders
abbrev pub ring_of : (G : Type 0) → Course → Catalogue → List (List ℕ) → List Order → List (AnyNode G)
ring_of G course catalogue library orders =
    opening_nodes course.plan.params course.faults (images_of course.plan.params catalogue library) orders

-- The nodes of a course lived, each by its own steps, through a history that keeps the course, and these are
-- their journals, one of each node.
pub record HasRun (G : Type 0) (course : Course) (catalogue : Catalogue) (library : List (List ℕ)) (orders : List Order) (journals : List (List Entry)) : Type 0 where
  pub nodes : List (AnyNode G)
  pub kept : HaveKept {M = Msg} noted (any_step {G = G}) course (ring_of G course catalogue library orders) nodes journals

-- the journals of a course follow the orders, where the controller ticks at its own readings
abbrev pub FollowOrders : Course → List Order → List (List Entry) → Type 0
FollowOrders course orders journals =
    AreCommanded course.plan.params course.beats (reading_of course (controller_of (links_of course.plan.params))) orders journals
