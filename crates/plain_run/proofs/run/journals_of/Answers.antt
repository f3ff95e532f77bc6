use Rattle.std.proofs.Common.{◌≡◌, ◌∙◌}
use Rattle.ring_nodes.specs.AllNodes.{image_at, images_of}
use Rattle.ring_nodes.proofs.Numbered.{length-numbered}
use Rattle.plain_run.proofs.run.journals_of.Goals as goal

pub make_nodes-requires-clause-images : goal.make_nodes-requires-clause-images
make_nodes-requires-clause-images c =
    let a = c.args in
    let p = a.course.now.plan.params in
    let images : c.as_slice.result.now ≡ images_of p a.catalogue.now a.library.now = c.as_slice.ensures.value ∙ c.in_ok-images.ensures in
    rw images (length-numbered (image_at p a.catalogue.now a.library.now) _)
