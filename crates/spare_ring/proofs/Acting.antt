-- What a cub whose disks may die does, and what another node does, the node does that it is.
use Rattle.std.proofs.Common.{ap, List}
use Rattle.tiger_base.specs.declared.message.Msg.{Msg}
use Rattle.tiger_base.specs.Notes.{noted}
use Rattle.node_kit.specs.declared.outbox.Out.{Out}
use Rattle.node_kit.specs.Steps.{Input, Acts}
use Rattle.disk_death.specs.Spares.{SpareState, spare_step, IsSpareCub}
use Rattle.ring_nodes.specs.declared.nodes.AnyNode.{AnyNode}
use Rattle.ring_nodes.specs.AllNodes.{any_step, StandsAny}
use Rattle.spare_ring.specs.declared.nodes.SpareNode.{SpareNode}
use Rattle.spare_ring.specs.declared.nodes.SpareNode.TheVariants as spare
use Rattle.spare_ring.specs.Nodes.{spare_node_step, StandsAsSpare}

module _ {G : Type 0} {i : Input Msg} {before after : List (Out Msg)} where
  pub cub_acts : {old new : SpareState} → Acts noted spare_step IsSpareCub i old new before after
      → Acts {S = SpareNode G} noted spare_node_step StandsAsSpare i (spare.Cub old) (spare.Cub new) before after
  cub_acts a = record { appended = a.appended; moved = ap (λ s. spare.Cub s) a.moved; stays = a.stays; allowed = a.allowed }

  pub other_acts : {old new : AnyNode G} → Acts noted any_step StandsAny i old new before after
      → Acts {S = SpareNode G} noted spare_node_step StandsAsSpare i (spare.Other old) (spare.Other new) before after
  other_acts a = record { appended = a.appended; moved = ap (λ s. spare.Other s) a.moved; stays = a.stays; allowed = a.allowed }
