-- What the cubs of a ring whose disks may die add meets its laws, and its facts meet those of a run in which disks may die.
use Rattle.std.specs.Prelude.{◌≡◌, ℕ, ◌/◌, ◌<◌, ◌≤◌, true, List, get_or, Option, Some, None}
use Rattle.tiger_base.specs.declared.message.Msg.{Msg}
use Rattle.slot_plan.specs.declared.params.Params.{Params}
use Rattle.slot_plan.specs.Conditions.{IsPlan}
use Rattle.slot_plan.specs.Times.{cub_of, disk_count, disk_of}
use Rattle.node_kit.specs.declared.course.Order.{Order}
use Rattle.run_facts.specs.Histories.{History, beat}
use Rattle.disk_core.specs.State.{DiskState}
use Rattle.disk_core.specs.Rules.{is_faulty}
use Rattle.spare_ring.specs.declared.nodes.SpareNode.{SpareNode}
use Rattle.proof_service.specs.Spares.{SpareLaws}
use Rattle.proof_facts.specs.Beside.{beside_by}
use Rattle.proof_facts.specs.Facts.{facts_of, pieces_beside}
use Rattle.proof_facts.specs.Laws.{BesideLaws}
use Rattle.proof_facts.specs.Lives.{lives_of}
use Rattle.proof_facts.specs.Rings.{node_count}
use Rattle.proof_spare.specs.Added.{added_in}
use Rattle.proof_spare.specs.Rings.{IsSpareRing}

-- What the cubs of a history know of their disks' deaths is so: each disk dies as its cub knows, and from its death on it fails
-- each read, up to a beat behind which nothing befalls a node.
pub record AreDeathsKnown {S : Type 0} (p : Params) (disk_at : ℕ → DiskState) (deaths : ℕ → List (Option ℕ))
    (death : ℕ → Option ℕ) (h : History Msg S) : Type 0 where
  pub until : ℕ
  pub early : (n i : ℕ) → n < node_count p → i < h.count n → beat h n i < until
  pub known : (n : ℕ) → get_or (deaths (cub_of p n)) (disk_of p n / p.cubs) None ≡ death (disk_of p n)
  pub fails : (d from b : ℕ)
      → d < disk_count p → death d ≡ Some from → from ≤ b → b < until → is_faulty (disk_at d).faults d b ≡ true

-- The laws of such a ring: of what its cubs add, and of the splits that its disks' deaths make due.
pub record MeetsSpareLaws {S : Type 0} (p : Params) (orders : List Order) (deaths : ℕ → List (Option ℕ))
    (death : ℕ → Option ℕ) (h : History Msg S) : Type 0 where
  pub added : BesideLaws p (facts_of p orders h) (beside_by p (lives_of h) (added_in p deaths h))
      (pieces_beside p (added_in p deaths h) h)
  pub due : SpareLaws p (facts_of p orders h) (pieces_beside p (added_in p deaths h) h) death

abbrev pub SpareRingsMeetTheLaws : (G : Type 0) → Type 0
SpareRingsMeetTheLaws G =
    (p : Params) (orders : List Order) (disk_at : ℕ → DiskState) (deaths : ℕ → List (Option ℕ)) (death : ℕ → Option ℕ)
    (h : History Msg (SpareNode G))
    → IsPlan p → IsSpareRing p orders disk_at deaths h → AreDeathsKnown p disk_at deaths death h
    → MeetsSpareLaws p orders deaths death h
