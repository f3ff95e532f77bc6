-- The nodes of a ring whose disks may die: their steps, where they stand, and how they open.
use Rattle.std.specs.Prelude.{ℕ, List, []}
use Rattle.tiger_base.specs.declared.message.Msg.{Msg}
use Rattle.slot_plan.specs.declared.params.Params.{Params}
use Rattle.disk_image.specs.Image.{Image}
use Rattle.node_kit.specs.declared.course.Order.{Order}
use Rattle.node_kit.specs.declared.course.ReadFault.{ReadFault}
use Rattle.node_kit.specs.Steps.{Deed, Input}
use Rattle.node_kit.specs.Deeds.{wrapped}
use Rattle.disk_death.specs.Deaths.{deaths_at}
use Rattle.disk_death.specs.Spares.{spare_step, IsSpareCub}
use Rattle.ring_nodes.specs.declared.nodes.AnyNode.{AnyNode}
use Rattle.ring_nodes.specs.declared.nodes.AnyNode.TheVariants as node
use Rattle.ring_nodes.specs.AllNodes.{any_step, StandsAny, each_numbered, opening_nodes}
use Rattle.spare_ring.specs.declared.nodes.SpareNode.{SpareNode}
use Rattle.spare_ring.specs.declared.nodes.SpareNode.TheVariants as spare

-- the step of a node is the step of the node that it is
abbrev pub spare_node_step : {G : Type 0} → SpareNode G → Input Msg → Deed Msg (SpareNode G)
spare_node_step (spare.Cub s) i = wrapped spare.Cub (spare_step s i)
spare_node_step (spare.Other s) i = wrapped spare.Other (any_step s i)

-- where it stands
abbrev pub StandsAsSpare : {G : Type 0} → SpareNode G → Params → ℕ → Type 0
StandsAsSpare (spare.Cub s) p n = IsSpareCub s p n
StandsAsSpare (spare.Other s) p n = StandsAny s p n

-- A node of a ring: a cub beside the deaths of its disks, in a run of so many beats with these read faults, which has split
-- nothing; any other node as it is.
abbrev pub beside_deaths : {G : Type 0} → Params → List ReadFault → ℕ → ℕ → AnyNode G → SpareNode G
beside_deaths p faults beats n (node.Cub s) = spare.Cub (record {
  inner = s;
  deaths = deaths_at p faults beats n;
  remembered = record { params = p; items = [] };
})
beside_deaths p faults beats n other = spare.Other other

-- the nodes of a run of so many beats as they open: each node of a ring by its number
abbrev pub spare_nodes : {G : Type 0} → Params → List ReadFault → ℕ → List Image → List Order → List (SpareNode G)
spare_nodes p faults beats images orders = each_numbered (beside_deaths p faults beats) 0 (opening_nodes p faults images orders)
