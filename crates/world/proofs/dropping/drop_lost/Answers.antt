use Rattle.std.proofs.Common.{◌≡◌, ◌<◌, Some, length, ap, ◌∙◌, arith}
use Rattle.std.specs.Prelude.{slice_get, vec_len, if◌then◌else◌}
use Rattle.std.proofs.lemmas.Bool.Decides.{nat_tests}
use Rattle.std.proofs.lemmas.Option.{slice_get_read}
use Rattle.node_kit.specs.Links.{Links, ends_of, leads_to}
use Rattle.ring_world.specs.Machine.{dropped}
use Rattle.world.specs.Dropping.{freed}
use Rattle.world.proofs.Losing.{freed_more}
use Rattle.world.proofs.dropping.drop_lost.Goals as goal

pub loop-l-preserved : goal.loop-l-preserved
loop-l-preserved g c =
    let l = c.loop-l.l in
    let items = c.loop-l.channels.items in
    let test = c.loop-l-test.true in
    let end = c.len-l-end.ensures in
    let size = c.loop-l.invariant.size in
    let before = c.args.channels.now.ok.0 in
    let len = c.loop-l.channels.ok.0 in
    let low : l < length items = grind (arith, nat_tests, test, end, size, before, len) in
    let low_len : l < vec_len c.loop-l.channels = omega (arith, low, len) in
    let here : slice_get items l ≡ Some c.index_mut.result.now = slice_get_read _ (vec_len c.loop-l.channels) _ _ len low_len c.index_mut.ensures.value in
    let more = freed_more (freed c.args.plan.now.params c.args.node.0 c.args.beat) l items c.args.channels.now.items _ c.drop_on.new.channel
    (record { same = c.loop-l.invariant.same; order = c.loop-l.invariant.order; size = size }) here
    (c.in_ok-drop_on.ensures
    ∙ ap (λ (t : Links). if leads_to c.args.node.0 (ends_of t l) then dropped c.args.beat c.index_mut.result.now else c.index_mut.result.now) c.new-links.ensures) in
    record { same = more.same; order = more.order; size = more.size }
