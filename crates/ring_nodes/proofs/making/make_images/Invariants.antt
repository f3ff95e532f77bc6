use Rattle.std.proofs.Common.{◌≡◌}
use Rattle.ring_nodes.specs.AllNodes.{numbered, image_at}
use Rattle.ring_nodes.proofs.making.make_images.Given as goal

abbrev pub invariant-loop-disk : goal.invariant-loop-disk
invariant-loop-disk l = l.images.items ≡ numbered (image_at l.plan.params l.catalogue l.library) l.disk
