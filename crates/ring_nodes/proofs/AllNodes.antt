-- What one of the four nodes does, any node does that is it.
use Rattle.std.proofs.Common.{ap, List}
use Rattle.tiger_base.specs.declared.message.Msg.{Msg}
use Rattle.tiger_base.specs.Notes.{noted}
use Rattle.node_kit.specs.declared.outbox.Out.{Out}
use Rattle.node_kit.specs.Steps.{Input, Acts}
use Rattle.cub_rules.specs.State.{CubState, IsCub}
use Rattle.cub_rules.specs.Cubs.{cub_step}
use Rattle.disk_core.specs.State.{DiskState, IsDisk}
use Rattle.disk_core.specs.Rules.{disk_step}
use Rattle.controller_core.specs.State.{ControllerState, IsController}
use Rattle.controller_core.specs.Rules.{controller_step}
use Rattle.ring_nodes.specs.declared.nodes.AnyNode.{AnyNode}
use Rattle.ring_nodes.specs.declared.nodes.AnyNode.TheVariants as node
use Rattle.ring_nodes.specs.AllNodes.{any_step, StandsAny}

module _ {G : Type 0} {i : Input Msg} {before after : List (Out Msg)} where
  pub cub_acts : {old new : CubState} → Acts noted cub_step IsCub i old new before after
      → Acts {S = AnyNode G} noted any_step StandsAny i (node.Cub old) (node.Cub new) before after
  cub_acts a = record { appended = a.appended; moved = ap (λ s. node.Cub s) a.moved; stays = a.stays; allowed = a.allowed }

  pub disk_acts : {old new : DiskState} → Acts noted disk_step IsDisk i old new before after
      → Acts {S = AnyNode G} noted any_step StandsAny i (node.Disk old) (node.Disk new) before after
  disk_acts a = record { appended = a.appended; moved = ap (λ s. node.Disk s) a.moved; stays = a.stays; allowed = a.allowed }

  pub controller_acts : {old new : ControllerState} → Acts noted controller_step IsController i old new before after
      → Acts {S = AnyNode G} noted any_step StandsAny i (node.Controller old) (node.Controller new) before after
  controller_acts a = record { appended = a.appended; moved = ap (λ s. node.Controller s) a.moved; stays = a.stays; allowed = a.allowed }
