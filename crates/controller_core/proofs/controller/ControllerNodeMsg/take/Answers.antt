use Rattle.std.proofs.Common.{sym}
use Rattle.std.proofs.lemmas.List.{append-nil}
use Rattle.std.proofs.lemmas.Result.{on_ok_weaker}
use Rattle.node_kit.specs.Steps.Input.{Take}
use Rattle.node_kit.proofs.Places.{acts}
use Rattle.controller_core.specs.State.{IsController}
use Rattle.controller_core.specs.Rules.{controller_step}
use Rattle.controller_core.proofs.Keeps.{controller_keeps}
use Rattle.controller_core.proofs.controller.ControllerNodeMsg.take.Goals as goal

pub returns : goal.returns
returns c =
    on_ok_weaker c.hear.result (λ e. acts controller_step IsController controller_keeps (Take c.args._stamp c.args._link c.args.msg) _ _ _ _ (sym (append-nil c.args._out.now), e)) c.hear.ensures
