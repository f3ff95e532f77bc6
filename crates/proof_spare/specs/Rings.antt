-- A ring whose disks may die, in a history from its opening on in which no cub dies.
use Rattle.std.specs.Prelude.{◌≡◌, ℕ, ◌<◌, ◌≤◌, false, List, [], Option, None}
use Rattle.tiger_base.specs.Limits.{most_reading}
use Rattle.tiger_base.specs.declared.message.Msg.{Msg}
use Rattle.tiger_base.specs.Notes.{noted}
use Rattle.slot_plan.specs.declared.params.Params.{Params}
use Rattle.slot_plan.specs.Conditions.{IsPlan}
use Rattle.slot_plan.specs.Times.{disk_count}
use Rattle.node_kit.specs.declared.course.Order.{Order}
use Rattle.cub_rules.specs.State.{opening_store}
use Rattle.disk_core.specs.State.{DiskState}
use Rattle.disk_death.specs.Spares.{SpareState}
use Rattle.run_facts.specs.Events.{is_death}
use Rattle.run_facts.specs.Histories.{History, IsRun, reading}
use Rattle.ring_nodes.specs.declared.nodes.AnyNode.TheVariants as node
use Rattle.ring_nodes.specs.AllNodes.{opening_controller}
use Rattle.spare_ring.specs.declared.nodes.SpareNode.{SpareNode}
use Rattle.spare_ring.specs.declared.nodes.SpareNode.TheVariants as spare
use Rattle.spare_ring.specs.Nodes.{spare_node_step}
use Rattle.proof_controller.specs.Controllers.{controller}
use Rattle.proof_controller.specs.Orders.{AreCounted}
use Rattle.proof_facts.specs.Rings.{node_count, node_of_disk, viewers, IsDiskOf, IsRingWith}
use Rattle.proof_spare.specs.Added.{added_in}

-- Cub c as it opens: it keeps nothing, its disks die so, and it has split nothing.
abbrev pub opening_spare : Params → List (Option ℕ) → ℕ → SpareState
opening_spare p deaths c = record {
  inner = record { params = p; cub = c; store = opening_store p 0; last = None };
  deaths = deaths;
  remembered = record { params = p; items = [] };
}

-- The nodes as they open: such cubs, these disks, a controller that has the orders, and viewers that have nothing.
pub record SpareOpensAs {G : Type 0} (p : Params) (orders : List Order) (disk_at : ℕ → DiskState)
    (deaths : ℕ → List (Option ℕ)) (h : History Msg (SpareNode G)) : Type 0 where
  pub cubs : (c : ℕ) → c < p.cubs → h.first c ≡ spare.Cub (opening_spare p (deaths c) c)
  pub disks : (d : ℕ) → d < disk_count p → h.first (node_of_disk p d) ≡ spare.Other (node.Disk (disk_at d))
  pub numbered : (d : ℕ) → d < disk_count p → IsDiskOf p d (disk_at d)
  pub commands : h.first (controller p) ≡ spare.Other (opening_controller p orders)
  pub views : h.first (viewers p) ≡ spare.Other (node.Viewers [])

-- A history of such a ring from its opening on, in which no node dies. Time is not too long.
pub record IsSpareRing {G : Type 0} (p : Params) (orders : List Order) (disk_at : ℕ → DiskState)
    (deaths : ℕ → List (Option ℕ)) (h : History Msg (SpareNode G)) : Type 0 where
  pub run : IsRun noted spare_node_step p (node_count p) h
  pub opens : SpareOpensAs p orders disk_at deaths h
  pub alive : (n i : ℕ) → n < node_count p → i < h.count n → is_death (h.event n i) ≡ false
  pub counted : AreCounted p orders
  pub short : (n i : ℕ) → n < node_count p → i < h.count n → reading h n i ≤ most_reading

-- Each node of it puts out what its rules say, and each cub what it adds besides.
abbrev pub SpareRingsAreHistories : (G : Type 0) → Type 0
SpareRingsAreHistories G =
    (p : Params) (orders : List Order) (disk_at : ℕ → DiskState) (deaths : ℕ → List (Option ℕ)) (h : History Msg (SpareNode G))
    → IsPlan p → IsSpareRing p orders disk_at deaths h → IsRingWith spare_node_step p orders disk_at (added_in p deaths h) h
