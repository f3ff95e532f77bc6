-- Any node of a ring is lawful, as each of the four nodes is.
use Rattle.std.proofs.Common.{ℕ, ◌≤◌}
use Rattle.tiger_base.specs.Limits.{most_reading}
use Rattle.tiger_base.specs.declared.message.Msg.{Msg}
use Rattle.slot_plan.specs.declared.params.Params.{Params}
use Rattle.node_kit.specs.Steps.{Input, stamp_of}
use Rattle.node_kit.specs.Steps.Input.{Take, Tick}
use Rattle.cub_changes.proofs.Rules.{cub_stays, cub_allowed}
use Rattle.disk_core.proofs.Keeps.{disk_keeps}
use Rattle.controller_core.proofs.Keeps.{controller_keeps}
use Rattle.ring_nodes.specs.declared.nodes.AnyNode.TheVariants as node
use Rattle.ring_world.specs.Laws.{MayCome}
use Rattle.proof_worlds.specs.Accepted.{NodesAreLawful}

short : (p : Params) (n : ℕ) (i : Input Msg) → MayCome p n i → (stamp_of i).reading ≤ most_reading
short p n (Take stamp link msg) may = may.0
short p n (Tick stamp) may = may

pub nodes_are_lawful : (G : Type 0) → NodesAreLawful G
nodes_are_lawful G p n (node.Cub s) i may at =
    let low = short p n i may in (cub_stays s i p n low at, cub_allowed s i p n low at)
nodes_are_lawful G p n (node.Disk s) i may at = disk_keeps s i p n at
nodes_are_lawful G p n (node.Controller s) i may at = controller_keeps s i p n at
nodes_are_lawful G p n (node.Viewers s) (Take stamp link msg) may at = (at, tt)
nodes_are_lawful G p n (node.Viewers s) (Tick stamp) may at = (at, tt)
