use Rattle.std.proofs.lemmas.Result.{on_ok_weaker}
use Rattle.node_kit.specs.Steps.Input.{Tick}
use Rattle.disk_death.proofs.Events.{spare_acts}
use Rattle.disk_death.proofs.spare.SpareCubNodeMsg.tick.Goals as goal

pub returns : goal.returns
returns c = on_ok_weaker c.end_beat.result (λ did. spare_acts (Tick c.args.stamp) _ _ _ _ c.requires did) c.end_beat.ensures
