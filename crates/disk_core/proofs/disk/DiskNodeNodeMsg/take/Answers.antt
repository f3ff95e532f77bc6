use Rattle.std.proofs.lemmas.Result.{on_ok_weaker}
use Rattle.node_kit.specs.Steps.Input.{Take}
use Rattle.disk_core.specs.State.{IsDisk}
use Rattle.disk_core.specs.Rules.{disk_step}
use Rattle.disk_core.proofs.Keeps.{disk_keeps}
use Rattle.node_kit.proofs.Places.{acts}
use Rattle.disk_core.proofs.disk.DiskNodeNodeMsg.take.Goals as goal

pub returns : goal.returns
returns g c = on_ok_weaker c.hear.result (λ d. acts disk_step IsDisk disk_keeps (Take c.args.stamp c.args._link c.args.msg) _ _ _ _ d) c.hear.ensures
