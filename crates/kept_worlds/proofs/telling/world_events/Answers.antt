use Rattle.std.proofs.Common.{◌≡◌, ◌∙◌, ◌++◌, ap, rules}
use Rattle.std.proofs.lemmas.Fn.{always_returns_same}
use Rattle.ring_world.specs.declared.event.Event.{Event}
use Rattle.kept_worlds.specs.Events.{lost_told}
use Rattle.kept_worlds.specs.Telling.{nodes_told}
use Rattle.kept_worlds.proofs.Grouping.{sorted-events}
use Rattle.kept_worlds.proofs.telling.world_events.Goals as goal

pub returns : goal.returns
returns c =
    let key = λ (e : Event). e.stamp.beat in
    let calls = always_returns_same _ (λ a r. r ≡ key a.0.now) _ (λ a r q k. search rules) in
    let course = c.args.kept.now.course in
    let told = c.in_ok-push_nodes.ensures
    ∙ ap (λ q. q ++ nodes_told course (lost_told course c.as_slice.result.now) 0 c.as_slice.result.now) c.new-events.ensures.items
    ∙ ap (λ js. nodes_told course (lost_told course js) 0 js) c.as_slice.ensures in
    sorted-events c.args.kept.now.course c.args.kept.now.journals _ _ told
    c.in_ok-sort_by_key.ensures.permutation (c.in_ok-sort_by_key.ensures.sorted key calls) (c.in_ok-sort_by_key.ensures.stable key calls)
