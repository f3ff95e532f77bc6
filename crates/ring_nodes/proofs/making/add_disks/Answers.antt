use Rattle.std.proofs.Common.{◌≡◌, ◌∙◌, refl, Some, arith}
use Rattle.std.specs.List.{slice_get}
use Rattle.std.proofs.lemmas.Option.{slice_get_read}
use Rattle.std.proofs.lemmas.Grind.{common_steps}
use Rattle.ring_nodes.specs.AllNodes.{faults_of}
use Rattle.ring_nodes.proofs.Numbered.{disks-more}
use Rattle.ring_nodes.proofs.making.add_disks.Goals as goal

pub loop-place-preserved : goal.loop-place-preserved
loop-place-preserved g c =
    let p = c.args.course.now.plan.params in
    let faults = c.args.course.now.faults in
    let place = c.loop-place.place in
    let images = c.args.images.now in
    let at : slice_get images place ≡ Some c.index-images-place.result = slice_get_read images _ place c.index-images-place.result refl c.loop-place-test.true c.index-images-place.is in
    let is : c.new-node.result ≡ record { params = p; disk = place; image = c.index-images-place.result; faults = faults_of place faults } = grind (arith, common_steps) in
    c.in_ok-push.ensures.items ∙ rw c.loop-place.invariant (disks-more c.args.nodes.now.items p faults images place c.index-images-place.result c.new-node.result at is)
