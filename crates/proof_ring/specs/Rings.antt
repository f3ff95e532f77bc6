-- A ring of cubs, disks, a controller and viewers, in a history from its opening on in which cubs may die and return.
use Rattle.std.specs.Prelude.{◌≡◌, ℕ, ◌<◌, ◌≤◌, List, []}
use Rattle.tiger_base.specs.Limits.{most_reading}
use Rattle.tiger_base.specs.declared.message.Msg.{Msg}
use Rattle.tiger_base.specs.Notes.{noted}
use Rattle.slot_plan.specs.declared.params.Params.{Params}
use Rattle.slot_plan.specs.Conditions.{IsPlan}
use Rattle.slot_plan.specs.Times.{disk_count}
use Rattle.node_kit.specs.declared.course.Order.{Order}
use Rattle.run_facts.specs.Histories.{History, IsRun, reading}
use Rattle.disk_core.specs.State.{DiskState}
use Rattle.ring_nodes.specs.declared.nodes.AnyNode.{AnyNode}
use Rattle.ring_nodes.specs.declared.nodes.AnyNode.TheVariants as node
use Rattle.ring_nodes.specs.AllNodes.{any_step, opening_cub, opening_controller}
use Rattle.proof_controller.specs.Controllers.{controller}
use Rattle.proof_controller.specs.Orders.{AreCounted}
use Rattle.proof_facts.specs.Rings.{node_count, node_of_disk, viewers, IsDiskOf, DieAlone, IsRingHistory}

-- The nodes of a ring as they open: cubs that keep nothing, these disks, a controller that has the
-- orders, and viewers that have nothing.
pub record OpensAs {G : Type 0} (p : Params) (orders : List Order) (disk_at : ℕ → DiskState)
    (h : History Msg (AnyNode G)) : Type 0 where
  pub cubs : (c : ℕ) → c < p.cubs → h.first c ≡ opening_cub p c
  pub disks : (d : ℕ) → d < disk_count p → h.first (node_of_disk p d) ≡ node.Disk (disk_at d)
  pub numbered : (d : ℕ) → d < disk_count p → IsDiskOf p d (disk_at d)
  pub commands : h.first (controller p) ≡ opening_controller p orders
  pub views : h.first (viewers p) ≡ node.Viewers []

-- A history of a ring from its opening on, in which no two neighbours die. A death may come in the middle of an event, and a
-- cub that died may return. Time is not too long.
pub record IsRing {G : Type 0} (p : Params) (orders : List Order) (disk_at : ℕ → DiskState)
    (h : History Msg (AnyNode G)) : Type 0 where
  pub run : IsRun noted any_step p (node_count p) h
  pub opens : OpensAs p orders disk_at h
  pub deaths : DieAlone p h
  pub counted : AreCounted p orders
  pub short : (n i : ℕ) → n < node_count p → i < h.count n → reading h n i ≤ most_reading

-- Each node of it puts out what its rules say.
abbrev pub RingsAreHistories : (G : Type 0) → Type 0
RingsAreHistories G =
    (p : Params) (orders : List Order) (disk_at : ℕ → DiskState) (h : History Msg (AnyNode G))
    → IsPlan p → IsRing p orders disk_at h → IsRingHistory any_step p orders disk_at h
