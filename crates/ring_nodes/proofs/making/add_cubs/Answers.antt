use Rattle.std.proofs.Common.{◌∙◌}
use Rattle.ring_nodes.proofs.Numbered.{cubs-more}
use Rattle.ring_nodes.proofs.making.add_cubs.Goals as goal

pub loop-cub-preserved : goal.loop-cub-preserved
loop-cub-preserved g c =
    c.in_ok-push.ensures.items ∙ rw c.loop-cub.invariant (cubs-more c.args.nodes.now.items c.args.plan.now.params c.loop-cub.cub c.new.result c.new.ensures)
