use Rattle.std.proofs.lemmas.Result.{on_ok_weaker}
use Rattle.node_kit.specs.Steps.Input.{Tick}
use Rattle.node_kit.proofs.Places.{acts}
use Rattle.controller_core.specs.State.{IsController}
use Rattle.controller_core.specs.Rules.{controller_step}
use Rattle.controller_core.proofs.Keeps.{controller_keeps}
use Rattle.controller_core.proofs.controller.ControllerNodeMsg.tick.Goals as goal

pub returns : goal.returns
returns c = on_ok_weaker c.command.result (λ d. acts controller_step IsController controller_keeps (Tick c.args.stamp) _ _ _ _ d) c.command.ensures
