use Rattle.std.proofs.Common.{ap, ◌∙◌}
use Rattle.net_run.proofs.Scenes.{scene_first, zeros}
use Rattle.net_run.proofs.scene.Scene.new.Goals as goal

pub invariant_of-result : goal.invariant_of-result
invariant_of-result c =
    scene_first c.args.ring c.in_ok-world.world c.in_ok-row.row.items c.in_ok-world.ensures (c.in_ok-row.ensures ∙ ap zeros c.quanta_in.ensures.is) c.is_safe.ensures.world
