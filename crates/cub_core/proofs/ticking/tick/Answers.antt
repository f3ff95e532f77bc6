use Rattle.std.proofs.lemmas.Result.{on_ok_weaker}
use Rattle.cub_core.proofs.Chains.{released, watched, inserted, split, forwarded, asked, tick_did}
use Rattle.cub_core.proofs.ticking.tick.Goals as goal

-- src/ticking.rt:28:5
pub insert-requires-clause-stored : goal.insert-requires-clause-stored
insert-requires-clause-stored c =
    let first = released c.args.site.now c.args.stamp c.requires.stored c.release.ensures in
    watched c.args.site.now c.args.stamp first c.in_ok-watch.ensures.1

-- src/ticking.rt:29:5
pub split-requires-clause-stored : goal.split-requires-clause-stored
split-requires-clause-stored c =
    let first = released c.args.site.now c.args.stamp c.requires.stored c.release.ensures in
    let second = watched c.args.site.now c.args.stamp first c.in_ok-watch.ensures.1 in
    inserted c.args.site.now c.args.stamp c.requires.reading second c.in_ok-insert.ensures.1

-- src/ticking.rt:30:5
pub forward-requires-clause-stored : goal.forward-requires-clause-stored
forward-requires-clause-stored c =
    let first = released c.args.site.now c.args.stamp c.requires.stored c.release.ensures in
    let second = watched c.args.site.now c.args.stamp first c.in_ok-watch.ensures.1 in
    let third = inserted c.args.site.now c.args.stamp c.requires.reading second c.in_ok-insert.ensures.1 in
    split c.args.site.now c.args.stamp third c.in_ok-split.ensures.1

-- src/ticking.rt:31:5
pub read-requires-clause-stored : goal.read-requires-clause-stored
read-requires-clause-stored c =
    let first = released c.args.site.now c.args.stamp c.requires.stored c.release.ensures in
    let second = watched c.args.site.now c.args.stamp first c.in_ok-watch.ensures.1 in
    let third = inserted c.args.site.now c.args.stamp c.requires.reading second c.in_ok-insert.ensures.1 in
    let fourth = split c.args.site.now c.args.stamp third c.in_ok-split.ensures.1 in
    forwarded c.args.site.now c.args.stamp fourth c.in_ok-forward.ensures.1

-- src/ticking.rt:32:5
pub serve-requires-clause-stored : goal.serve-requires-clause-stored
serve-requires-clause-stored c =
    let first = released c.args.site.now c.args.stamp c.requires.stored c.release.ensures in
    let second = watched c.args.site.now c.args.stamp first c.in_ok-watch.ensures.1 in
    let third = inserted c.args.site.now c.args.stamp c.requires.reading second c.in_ok-insert.ensures.1 in
    let fourth = split c.args.site.now c.args.stamp third c.in_ok-split.ensures.1 in
    let fifth = forwarded c.args.site.now c.args.stamp fourth c.in_ok-forward.ensures.1 in
    asked c.args.site.now c.args.stamp fifth c.in_ok-read.ensures.1

-- src/ticking.rt:15:1
pub returns : goal.returns
returns c =
    on_ok_weaker c.beat.result
    (λ beats.
    tick_did c.args.site.now.plan.params c.args.site.now.cub.0 c.args.stamp c.args.store.now c.args.out.now c.release.ensures c.in_ok-watch.ensures c.in_ok-insert.ensures c.in_ok-split.ensures
    c.in_ok-forward.ensures c.in_ok-read.ensures c.in_ok-serve.ensures beats)
    c.beat.ensures
