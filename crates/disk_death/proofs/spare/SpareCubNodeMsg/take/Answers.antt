use Rattle.std.proofs.lemmas.Result.{on_ok_weaker}
use Rattle.node_kit.specs.Steps.Input.{Take}
use Rattle.disk_death.proofs.Events.{spare_acts}
use Rattle.disk_death.proofs.spare.SpareCubNodeMsg.take.Goals as goal

pub returns : goal.returns
returns c = on_ok_weaker c.take_in.result (λ did. spare_acts (Take c.args.stamp c.args.link c.args.msg) _ _ _ _ c.requires.reading did) c.take_in.ensures
