use Rattle.std.proofs.lemmas.Result.{on_ok_weaker}
use Rattle.node_kit.specs.Steps.Input.{Take}
use Rattle.cub_changes.proofs.Rules.{cub_acts}
use Rattle.cub_core.proofs.cub.CubNodeMsg.take.Goals as goal

pub returns : goal.returns
returns c = on_ok_weaker c.take_in.result (λ did. cub_acts (Take c.args.stamp c.args.link c.args.msg) _ _ _ _ c.requires.reading did) c.take_in.ensures
