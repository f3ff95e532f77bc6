use Rattle.std.proofs.Common.{◌∙◌, length, ap}
use Rattle.slot_plan.specs.Times.{disk_count}
use Rattle.ring_nodes.specs.AllNodes.{image_at}
use Rattle.ring_nodes.proofs.Numbered.{length-numbered}
use Rattle.world.proofs.Accepted.{fresh_world, fresh_running}
use Rattle.world.proofs.world.World.new.Goals as goal

pub make_nodes-requires-clause-images : goal.make_nodes-requires-clause-images
make_nodes-requires-clause-images g c =
    ap length c.requires.images
    ∙ length-numbered (image_at c.args.course.now.plan.params c.args.catalogue.now c.args.library.now) (disk_count c.args.course.now.plan.params)

pub invariant_of-result : goal.invariant_of-result
invariant_of-result g c =
    fresh_world _ _ c.args.course.now.plan.sound c.requires.beats
    (fresh_running c.args.course.now.plan.params c.args.course.now.beats _ _ _ _ c.args.catalogue.now c.args.library.now _ _ _
    (c.in_ok-faults.ensures ∙ c.as_slice-2.ensures) (c.in_ok-kept.ensures ∙ c.as_slice.ensures) c.requires.images c.in_ok-nodes.ensures.nodes c.in_ok-machine.ensures)
