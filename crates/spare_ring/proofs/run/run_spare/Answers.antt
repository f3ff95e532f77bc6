use Rattle.std.proofs.Common.{◌≡◌, ◌∙◌, refl}
use Rattle.std.proofs.lemmas.Result.{IfOk-weaker}
use Rattle.ring_nodes.specs.AllNodes.{image_at, images_of}
use Rattle.ring_nodes.proofs.Numbered.{length-numbered}
use Rattle.spare_ring.specs.Runs.{spare_ring_of}
use Rattle.spare_ring.proofs.Runs.{spare_run}
use Rattle.spare_ring.proofs.run.run_spare.Goals as goal

pub make_spare_nodes-requires-clause-images : goal.make_spare_nodes-requires-clause-images
make_spare_nodes-requires-clause-images g c =
    let p = c.args.scenario.course.plan.params in
    let library = c.args.library.now in
    let images : c.as_slice-2.result.now ≡ images_of p c.in_ok-catalogue.catalogue library = c.as_slice-2.ensures.value ∙ c.in_ok-images.ensures in
    rw images (length-numbered (image_at p c.in_ok-catalogue.catalogue library) _)

pub returns-clause-ran : goal.returns-clause-ran
returns-clause-ran g c =
    let s = c.args.scenario in
    let library = c.args.library.now in
    let catalogue = c.in_ok-catalogue.catalogue in
    let images : c.as_slice-2.result.now ≡ images_of s.course.plan.params catalogue library = c.as_slice-2.ensures.value ∙ c.in_ok-images.ensures in
    let opened : c.in_ok-nodes.nodes.items ≡ spare_ring_of _ s.course catalogue library c.in_ok-orders.orders =
    c.in_ok-nodes.ensures.nodes ∙ rw (images, c.in_ok-given.ensures, c.as_slice.ensures) refl in
    let ran = rw (opened, c.in_ok-orders.ensures.orders) at c.run_nodes.ensures.ran in
    IfOk-weaker c.run_nodes.result _ _ (λ run kept. spare_run g.row.G.Denot s library catalogue run.kept c.requires.calm c.in_ok-catalogue.ensures kept) ran
